-- An EPS call performed: which function of nas_eps is called with which of the line's numbers (docs/HEX-LINES.md, "EPS calls").
use Rattle.std.specs.Prelude.{ℕ, List, Option, Some, None, get_or}
use Rattle.aes.specs.Keys.{key_of}
use Rattle.nas_core.specs.Keyed.{core_with}
use Rattle.nas_eps.specs.declared.Context.{Context}
use Rattle.nas_eps.specs.Places.{two}
use Rattle.nas_eps.specs.Leaves.{Leaves, leaves}
use Rattle.nas_eps.specs.Changes.{new_of, restore_of, reselect_of, window_of}
use Rattle.nas_eps.specs.Seal.{seal_of, service_request_of}
use Rattle.nas_eps.specs.Open.{open_of}
use Rattle.hex_perform.specs.Perform.{direction_of}
use Rattle.hex_eps_parse.specs.Lines.{Line}
use Rattle.hex_eps_parse.specs.declared.Call.{Call}
use Rattle.hex_eps_parse.specs.declared.Call.TheVariants as call
use Rattle.hex_eps.specs.declared.Answer.{Answer}
use Rattle.hex_eps.specs.declared.Answer.TheVariants.{Bad, Done, Shown, Refused}
use Rattle.hex_eps.specs.Answers.{change_answer, use_answer, open_answer, writing, keeping}

-- any numbers
unfoldable pub raw_context : ℕ → ℕ → ℕ → List ℕ → List ℕ → List ℕ → List ℕ → Context
raw_context i c n ik ck next bits =
    record { core = core_with i c (key_of ik) (key_of ck) n; records = two (λ p. record { next = get_or next p 0; bits = get_or bits p 0 }) }

-- the call of the line l on the context x, with the line's octets o and the lent output
unfoldable pub call_of : Call → Line → Context → List ℕ → List ℕ → Leaves Answer
call_of call.Bad l x o out = leaves Bad x out
call_of (call.New i c) l x o out = keeping out (writing change_answer (new_of i c l.integrity_key l.ciphering_key))
call_of (call.Restore i c) l x o out =
    keeping out (writing change_answer (restore_of i c l.integrity_key l.ciphering_key (get_or l.next 0 0) (get_or l.next 1 0)))
call_of (call.Reselect i c) l x o out = keeping out (writing change_answer (reselect_of x i c l.integrity_key l.ciphering_key))
call_of (call.Window n) l x o out = keeping out (writing change_answer (window_of x n))
call_of (call.Seal t d) l x o out = writing use_answer (seal_of x t (direction_of d) o out)
call_of (call.Request i) l x o out = writing use_answer (service_request_of x i out)
call_of (call.Open d) l x o out = writing open_answer (open_of x (direction_of d) o out)
call_of (call.Raw i c n) l x o out =
    leaves Done (raw_context i c n l.integrity_key l.ciphering_key l.next l.bits) out
call_of call.Show l x o out = leaves Shown x out

-- more octets than the program holds: 4, before the library is called
abbrev pub held_of : Option ℕ → Line → Context → List ℕ → List ℕ → Leaves Answer
held_of None l x o out = leaves (Refused 4) x out
held_of (Some n) l x o out = call_of l.call l x o out

unfoldable pub perform_of : Line → Context → List ℕ → List ℕ → Leaves Answer
perform_of l x o out = held_of l.octets l x o out
