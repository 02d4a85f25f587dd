-- Definitions: "Transmit side", and the THR condition of "Interrupts".
use Rattle.std.specs.Prelude.{ℕ, ◌-◌, Bool, true, false, not, ◌||◌, eqb, leb, Option, None, Some}
use Rattle.bits.specs.Choice.{pick}
use Rattle.bits.specs.Bits.{bit_at, cut_to}
use Rattle.registers.specs.declared.settings.Settings.{Settings}
use Rattle.levels.specs.declared.trigger.Spaces.{Spaces}
use Rattle.levels.specs.Levels.{transmit_level}
use Rattle.lines.specs.declared.transmit.Shift.{Shift}

-- "Room is 64 in both modes (house ..)."
abbrev pub transmit_room : ℕ
transmit_room = 64

-- "TXLVL is free spaces."
unfoldable pub spaces_of : ℕ → Spaces
spaces_of count = record { 0 = transmit_room - count }

-- an empty queue
unfoldable pub all_free : Spaces → Bool
all_free free = eqb free.0 transmit_room

-- "the transmit queue or shift register holds something"
unfoldable pub is_busy : Shift → Spaces → Bool
is_busy shift free = not (all_free free) || shift.full

-- "then the oldest is loaded": the shift register with it, or with none
unfoldable pub shift_loaded : Bool → ℕ → Shift
shift_loaded loaded oldest = record { full = loaded; byte = pick loaded oldest 0 }

-- a slot loads a character, or none
abbrev pub shift_after : Option ℕ → Shift
shift_after None = shift_loaded false 0
shift_after (Some character) = shift_loaded true character

-- "character that left, or 256"; "a held character leaves, cut to the word length"
unfoldable pub slot_reply : Shift → Settings → ℕ
slot_reply shift s = pick shift.full (cut_to shift.byte s.lcr) 256

-- "The THR condition is an empty queue (FCR 0 clear) or spaces ≥ level."
unfoldable pub thr_condition : Settings → Spaces → Bool
thr_condition s free = pick (bit_at s.fcr 0) (leb (transmit_level s).0 free.0) (all_free free)
