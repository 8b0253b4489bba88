-- A call performed: which function of nas_5gs is called with which of the line's numbers (docs/HEX-LINES.md, "Calls").
use Rattle.std.specs.Prelude.{ℕ, cond, List, Option, Some, None, eqb, get_or}
use Rattle.nas_5gs.specs.declared.Context.{Context}
use Rattle.nas_core.specs.declared.Direction.{Direction}
use Rattle.nas_core.specs.declared.Direction.TheVariants.{Uplink, Downlink}
use Rattle.nas_5gs.specs.declared.Connection.{Connection}
use Rattle.nas_5gs.specs.declared.Connection.TheVariants.{ThreeGpp, Non3Gpp}
use Rattle.nas_5gs.specs.Places.{four}
use Rattle.nas_5gs.specs.Leaves.{LeavesTwo, leaves_two}
use Rattle.aes.specs.Keys.{key_of}
use Rattle.nas_5gs.specs.Changes.{core_with, new_of, restore_of, reselect_of, window_of}
use Rattle.nas_5gs.specs.Seal.{seal_of, seal_opaque_of}
use Rattle.nas_5gs.specs.Initial.{initial_of}
use Rattle.nas_5gs.specs.Open.{open_of}
use Rattle.nas_5gs.specs.Eps.{seal_eps_of, open_eps_of}
use Rattle.handover.specs.Across.{across_of}
use Rattle.nas_5gs.specs.Containers.{n1_to_s1_of, verify_n1_to_s1_of, s1_to_n1_of, verify_s1_to_n1_of}
use Rattle.hex_parse.specs.Lines.{Line}
use Rattle.hex_parse.specs.declared.Call.{Call}
use Rattle.hex_parse.specs.declared.Call.TheVariants as call
use Rattle.hex_perform.specs.declared.Answer.{Answer}
use Rattle.hex_perform.specs.declared.Answer.TheVariants.{Bad, Done, Shown, Refused}
use Rattle.hex_perform.specs.Answers.{change_answer, use_answer, octet_answer, open_answer, eps_answer, verify_answer, writing, writing_two, writing_across, beside, keeping}

unfoldable pub direction_of : ℕ → Direction
direction_of n = cond (eqb n 0) Uplink Downlink

unfoldable pub connection_of : ℕ → Connection
connection_of n = cond (eqb n 1) ThreeGpp Non3Gpp

-- any numbers
unfoldable pub raw_context : ℕ → ℕ → ℕ → List ℕ → List ℕ → List ℕ → List ℕ → Context
raw_context i c n ik ck next bits =
    record { core = core_with i c (key_of ik) (key_of ck) n; records = four (λ p. record { next = get_or next p 0; bits = get_or bits p 0 }) }

-- the call of the line l on the context x, with the line's octets o and the two lent outputs
unfoldable pub call_of : Call → Line → Context → List ℕ → List ℕ → List ℕ → LeavesTwo Answer
call_of call.Bad l x o out second = leaves_two Bad x out second
call_of (call.New i c) l x o out second =
    keeping out second (writing change_answer (new_of i c l.integrity_key l.ciphering_key))
call_of (call.Restore i c) l x o out second =
    keeping out second (writing change_answer (restore_of i c l.integrity_key l.ciphering_key l.next))
call_of (call.Reselect i c) l x o out second =
    keeping out second (writing change_answer (reselect_of x i c l.integrity_key l.ciphering_key))
call_of (call.Window n) l x o out second = keeping out second (writing change_answer (window_of x n))
call_of (call.Seal t d k) l x o out second = beside second (writing use_answer (seal_of x t (direction_of d) (connection_of k) o out))
call_of (call.Opaque t d k) l x o out second =
    beside second (writing use_answer (seal_opaque_of x t (direction_of d) (connection_of k) o out))
call_of (call.Initial k) l x o out second = beside second (writing use_answer (initial_of x (connection_of k) o out))
call_of (call.Open d k) l x o out second = writing_two open_answer (open_of x (direction_of d) (connection_of k) o out second)
call_of call.EpsSeal l x o out second = beside second (writing use_answer (seal_eps_of x o out))
call_of call.EpsOpen l x o out second = beside second (writing eps_answer (open_eps_of x o out))
call_of call.N1ToS1 l x o out second = keeping out second (writing octet_answer (n1_to_s1_of x))
call_of (call.VerifyN1ToS1 n) l x o out second = keeping out second (writing verify_answer (verify_n1_to_s1_of x n))
call_of (call.S1ToN1 p k) l x o out second = beside second (writing use_answer (s1_to_n1_of x p k out))
call_of call.VerifyS1ToN1 l x o out second = keeping out second (writing use_answer (verify_s1_to_n1_of x o))
call_of (call.Raw i c n) l x o out second =
    leaves_two Done (raw_context i c n l.integrity_key l.ciphering_key l.next l.bits) out second
call_of call.Show l x o out second = leaves_two Shown x out second
call_of (call.Across d k) l x o out second = writing_across (across_of x (direction_of d) (connection_of k) o out second)
call_of (call.WindowIn n) l x o out second = keeping out second (writing change_answer (window_of x n))
call_of (call.SealIn t d k) l x o out second = beside second (writing use_answer (seal_of x t (direction_of d) (connection_of k) o out))
call_of (call.OpenIn d k) l x o out second = writing_two open_answer (open_of x (direction_of d) (connection_of k) o out second)

-- more octets than the program holds: 4, before the library is called
abbrev pub held_of : Option ℕ → Line → Context → List ℕ → List ℕ → List ℕ → LeavesTwo Answer
held_of None l x o out second = leaves_two (Refused 4) x out second
held_of (Some n) l x o out second = call_of l.call l x o out second

unfoldable pub perform_of : Line → Context → List ℕ → List ℕ → List ℕ → LeavesTwo Answer
perform_of l x o out second = held_of l.octets l x o out second
