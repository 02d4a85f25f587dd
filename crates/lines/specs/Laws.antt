-- Laws: the pins and their changes stay four bits each; the shift register, what leaves it and MSR stay within their bounds; the
-- latch rule applied twice is the latch rule.
use Rattle.std.specs.Prelude.{ℕ, ◌<◌, ◌≤◌, ◌≡◌, refl, Bool, true, false, not}
use Rattle.std.proofs.Common.{lt_of_le_of_lt, arith}
use Rattle.std.specs.Bool.{then_some}
use Rattle.std.specs.Int.Bits.{bit_xor}
use Rattle.std.proofs.lemmas.Nat.{or_lt, xor_lt, and_le_l}
use Rattle.bits.specs.Choice.{pick, pick_by}
use Rattle.bits.specs.Bits.{bit_at}
use Rattle.bits.specs.Laws.{cut_fits}
use Rattle.levels.specs.declared.trigger.Characters.{Characters}
use Rattle.registers.specs.declared.register.Register.{Register}
use Rattle.registers.specs.declared.register.Register.TheVariants as register
use Rattle.registers.specs.declared.settings.Settings.{Settings}
use Rattle.registers.specs.Windows.{same}
use Rattle.lines.specs.declared.modem.Modem.{Modem}
use Rattle.lines.specs.declared.transmit.Shift.{Shift}
use Rattle.lines.specs.Modem.{ModemIn, pins_changed, modem_read, msr_of}
use Rattle.lines.specs.Rts.{halt_reached, resume_reached, latch_driven, latch_after}
use Rattle.lines.specs.Transmit.{shift_loaded, shift_after, slot_reply}

pub modem_read_lem : (m : Modem) (read : Register) → ModemIn m → ModemIn (modem_read m read)
unfolding modem_read
modem_read_lem m read h =
    record {
      pins_in = h.pins_in;
      changes_in = pick_by (λ (n : ℕ). n < 16) (same read register.Msr) (λ _. omega arith) (λ _. h.changes_in);
    }

pub modem_changed_lem : (m : Modem) (value : ℕ) → value < 16 → ModemIn m → ModemIn (pins_changed m value)
unfolding pins_changed
modem_changed_lem m value v h =
    record {
      pins_in = v;
      changes_in =
          or_lt 4 m.changes _ h.changes_in
          (lt_of_le_of_lt (and_le_l (bit_xor m.pins value) _) (xor_lt 4 m.pins value h.pins_in v));
    }

pub msr_fits : (m : Modem) → ModemIn m → msr_of m < 256
unfolding msr_of
msr_fits m h = omega (arith, h.pins_in, h.changes_in)

pub shift_loaded_lem : (loaded : Bool) (oldest : ℕ) → oldest < 256 → (shift_loaded loaded oldest).byte < 256
unfolding shift_loaded
shift_loaded_lem loaded oldest fits = pick_by (λ (n : ℕ). n < 256) loaded (λ _. fits) (λ _. omega arith)

pub loaded_or_not : (some : Bool) (character : ℕ) → shift_after (then_some some character) ≡ shift_loaded some character
unfolding shift_loaded
loaded_or_not true character = refl
loaded_or_not false character = refl

pub slot_in : (shift : Shift) (s : Settings) → shift.byte < 256 → slot_reply shift s ≤ 256
unfolding slot_reply
slot_in shift s fits =
    pick_by (λ (n : ℕ). n ≤ 256) shift.full (λ _. omega (arith, cut_fits shift.byte s.lcr fits)) (λ _. omega arith)

-- ---- a latch that the rule has made is what the rule makes of it
pub driven_once : (s : Settings) (received : Characters) (latch : Bool)
    → latch_driven s received (latch_driven s received latch) ≡ latch_driven s received latch
unfolding latch_driven
driven_once s received latch = go (halt_reached s received) (resume_reached s received) latch
  where
    go : (halt resume latch : Bool) → pick halt false (pick resume true (pick halt false (pick resume true latch))) ≡ pick halt false (pick resume true latch)
    go true resume latch = refl
    go false true latch = refl
    go false false latch = refl

pub latch_once : (s : Settings) (received : Characters) (latch : Bool)
    → latch_after s received (latch_after s received latch) ≡ latch_after s received latch
unfolding latch_after
latch_once s received latch = go (not (bit_at s.efr 6))
  where
    go : (clear : Bool) → pick clear true (latch_driven s received (pick clear true (latch_driven s received latch))) ≡ pick clear true (latch_driven s received latch)
    go true = refl
    go false = driven_once s received latch
