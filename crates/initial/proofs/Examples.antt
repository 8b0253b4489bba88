-- Worked examples: a SERVICE REQUEST and a DEREGISTRATION REQUEST from the UE, and walks that fail.
use mathlib.Core.Path.{◌≡◌, refl}
use mathlib.Core.Bool.{true, false}
use mathlib.Core.List.{List, [], ◌∷◌, ◌++◌}
use Prim.Native.Nat.{ℕ}
use Rattle.std.specs.Prelude.{Some, None, Ok, Err}
use Rattle.look.specs.Look.{is_mobility, is_of}
use Rattle.initial.specs.Parts.{format_of, head_length, value_length, part_length}
use Rattle.initial.specs.Messages.{is_initial, mandatory_length, is_whole}
use Rattle.initial.specs.Walk.{walk_from, walk_of, span, container_of}
use Rattle.initial.specs.Outer.{hides, front_of, outer_of}

abbrev service : List ℕ
service = 0x7E ∷ 0x00 ∷ 0x4C ∷ 0x10 ∷ 0x00 ∷ 0x07 ∷ 0xF4 ∷ 0x00 ∷ 0x40 ∷ 0xC0 ∷ 0x00 ∷ 0x00 ∷ 0x01 ∷ []

-- uplink data status and PDU session status
abbrev hidden : List ℕ
hidden = service ++ (0x40 ∷ 0x02 ∷ 0x20 ∷ 0x00 ∷ 0x50 ∷ 0x02 ∷ 0x20 ∷ 0x00 ∷ [])

-- its whole ciphered
abbrev value : List ℕ
value =
    0xBE ∷ 0x46 ∷ 0xDA ∷ 0x9D ∷ 0xEE ∷ 0x1A ∷ 0x42 ∷ 0x5F ∷ 0xAF ∷ 0x66 ∷ 0xA5 ∷ 0x6F ∷ 0x35 ∷ 0x01 ∷ 0xAE ∷ 0x84 ∷ 0xC8 ∷ 0xA2 ∷ 0x1B ∷ 0xD4 ∷ 0xE4 ∷ []

deregistration : List ℕ
deregistration =
    0x7E ∷ 0x00 ∷ 0x45 ∷ 0x09 ∷ 0x00 ∷ 0x0B ∷ 0xF2 ∷ 0x02 ∷ 0xF8 ∷ 0x39 ∷ 0xCA ∷ 0xFF ∷ 0x80 ∷ 0x11 ∷ 0x22 ∷ 0x33 ∷ 0x44 ∷ []

goes-out : outer_of hidden value ≡ service ++ (0x71 ∷ 0x00 ∷ 0x15 ∷ []) ++ value
unfolding outer_of front_of hides mandatory_length
goes-out = refl

nothing_hidden : hides deregistration ≡ false
unfolding deregistration hides mandatory_length
nothing_hidden = refl

both-initial : (is_initial hidden ≡ true) × (is_initial deregistration ≡ true)
unfolding deregistration is_initial is_of is_mobility
both-initial = (refl, refl)

-- 71 inside a value does not count, the first container does, a part of one octet is passed over
found : (container_of hidden ≡ Ok None)
    × (container_of (service ++ (0x71 ∷ 0x00 ∷ 0x15 ∷ []) ++ value) ≡ Ok (Some (span 16 21)))
    × (container_of (service ++ (0x71 ∷ 0x00 ∷ 0x00 ∷ [])) ≡ Ok (Some (span 16 0)))
    × (container_of (service ++ (0x29 ∷ 0x01 ∷ 0x71 ∷ 0xC1 ∷ 0x71 ∷ 0x00 ∷ 0x01 ∷ 0xAA ∷ 0x71 ∷ 0x00 ∷ 0x00 ∷ [])) ≡ Ok (Some (span 20 1)))
unfolding container_of walk_of walk_from is_whole mandatory_length part_length head_length value_length format_of
found = (refl, refl, refl, refl)

-- a value that runs past the message, a length octet that is missing, the same behind a container, and a message too short to walk
failing : (container_of (service ++ (0x40 ∷ 0x02 ∷ 0x20 ∷ 0x00 ∷ 0x50 ∷ 0x03 ∷ 0x20 ∷ [])) ≡ Err (record {}))
    × (container_of (service ++ (0x71 ∷ 0x00 ∷ [])) ≡ Err (record {}))
    × (container_of (service ++ (0x71 ∷ 0x00 ∷ 0x01 ∷ 0xAA ∷ 0x50 ∷ [])) ≡ Err (record {}))
    × (container_of (0x7E ∷ 0x00 ∷ 0x4C ∷ []) ≡ Err (record {}))
unfolding container_of walk_of walk_from is_whole mandatory_length part_length head_length value_length format_of
failing = (refl, refl, refl, refl)
