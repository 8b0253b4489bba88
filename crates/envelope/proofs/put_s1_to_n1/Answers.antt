use mathlib.Core.Path.{◌≡◌, refl, ap, sym, ◌∙◌}
use native.Mathlib.Omega.{arith}
use Prim.Native.Nat.{ℕ}
use mathlib.Core.List.{List, ◌++◌, append_assoc}
use lib.ListN.{length, take, drop, length-set}
use Rattle.nas_core.specs.Keyed.{code_by}
use Rattle.nas_core.proofs.Octets.{joined, stored-behind}
use lib.Seq.{sets, take_at}
use Rattle.envelope.proofs.Lengths.{s1-length}
use Rattle.envelope.specs.Containers.{s1_value, s1_count, s1_to_n1}
use Rattle.envelope.proofs.put_s1_to_n1.Goals as goal

pub bounds-out-5 : goal.bounds-out-5
bounds-out-5 c =
    simp length-set (omega arith)

pub bounds-out-6 : goal.bounds-out-6
bounds-out-6 c =
    simp length-set (omega arith)

pub put_code-requires : goal.put_code-requires
put_code-requires c =
    simp length-set (omega arith)

pub shape_of-out : goal.shape_of-out
shape_of-out c =
    c.put_code.auto.body ∙ simp length-set

pub returns : goal.returns
unfolding s1_to_n1
returns c =
    let v = s1_value c.args.core c.args.ncc c.args.ngksi in
    let e : drop 4 (sets c.args.out.now 4 v) ≡ v ++ drop 8 c.args.out.now = stored-behind v c.args.out.now c.requires.4 in
    let k : 8 ≡ length (s1_to_n1 c.args.core c.args.ncc c.args.ngksi) = sym (s1-length c.args.core c.args.ncc c.args.ngksi) in
    c.put_code.ensures
    ∙ joined (c.code-code.ensures ∙ ap (λ (l : List ℕ). code_by c.args.core s1_count 1 1 l) (ap (λ (l : List ℕ). take 4 l) e ∙ take_at v (drop 8 c.args.out.now) 4 refl)) (e ∙ ap (λ (n : ℕ). v ++ drop n c.args.out.now) k)
    ∙ sym (append_assoc (code_by c.args.core s1_count 1 1 v) v (drop (length (s1_to_n1 c.args.core c.args.ncc c.args.ngksi)) c.args.out.now))
