use Rattle.std.proofs.Common.{◌≡◌, ◌+◌, ◌-◌, ◌*◌, ◌/◌, ◌%◌, length, refl, ap, ◌∙◌, add-one, arith}
use Rattle.zuc.proofs.Walk.{moved_by}
use Rattle.zuc.proofs.Hashes.{hash_by, hash-octets, code-end}
use Rattle.zuc.proofs.integrity.code_with.Goals as goal

pub loop-n-init : goal.loop-n-init
unfolding hash_by moved_by
loop-n-init c =
    record { hashed = refl; moved = refl }

pub loop-n-preserved : goal.loop-n-preserved
unfolding moved_by
loop-n-preserved c =
    let m = c.args.m.now in
    let n = c.loop-n.n in
    let v = c.first-v.result in
    let i = c.loop-n.invariant in
    let f : n * 4 + (n * 4 + 4 - n * 4) ≡ (n + 1) * 4 = omega arith in
    record {
      hashed =
          c.hash_part-t.ensures ∙
          hash-octets v m c.loop-n.t c.loop-n.v n i.hashed i.moved (n * 4 + 4 - n * 4) (omega arith) (omega arith) ∙
          ap (hash_by v m) f;
      moved = rw (c.advance.ensures, add-one, i.moved);
    }

pub returns : goal.returns
returns c =
    let m = c.args.m.now in
    let v = c.first-v.result in
    let i = c.loop-n.invariant in
    let a = length m / 4 in
    let d : c.loop-n.n ≡ length m / 4 = omega arith in
    let f : a * 4 + (length m - a * 4) ≡ a * 4 + length m % 4 = omega arith in
    let hashed : c.loop-n.t ≡ hash_by v m (a * 4) = i.hashed ∙ ap (λ n. hash_by v m (n * 4)) d in
    let moved : c.loop-n.v ≡ moved_by a v = i.moved ∙ ap (λ n. moved_by n v) d in
    rw (c.last_word.ensures, c.word_at.ensures)
    (code-end c.args.from m v c.first-v.ensures a c.hash_part-rest.result c.loop-n.v refl
    (c.hash_part-rest.ensures ∙
    hash-octets v m c.loop-n.t c.loop-n.v a hashed moved (length m - a * 4) (omega arith) (omega arith) ∙
    ap (hash_by v m) f)
    moved)
