-- Laws: the record after every history, on both channels: it is well formed, so that the bits that stay 0 are 0, in the
-- stored registers and in what a read of them replies, and every reply is at most 256.
use Rattle.std.specs.Prelude.{ℕ, ◌≡◌, refl, false, List, [], ◌∷◌}
use native.Mathlib.Omega.{arith}
use Rattle.bits.specs.Bits.{part_at, bit_at}
use Rattle.event.specs.Events.{Made}
use Rattle.registers.specs.declared.register.Register.TheVariants as register
use Rattle.registers.specs.declared.settings.Settings.{Settings}
use Rattle.registers.specs.Windows.{register_at}
use Rattle.registers.specs.Bounds.{SettingsIn}
use Rattle.channel.specs.Channel.{read_of}
use Rattle.device.specs.declared.side.Side.{Side}
use Rattle.device.specs.declared.device.Device.{Device}
use Rattle.device.specs.Reset.{new_device}
use Rattle.device.specs.Device.{WellFormed, answered_of}
use Rattle.device.specs.Laws.{well_formed_at, well_formed_new, well_formed_answered}
use Rattle.device.specs.Replies.{answer_in}
use Rattle.history.specs.Demand3.{ran, answers_from, AllIn, log_of, read_reply}
use Rattle.history.proofs.Agreement.{well_formed_ran}
use Rattle.history.specs.Reads.{read_reply_lem}
use Rattle.history.specs.Records.{AnswersIn, StayZero, stored}

-- ---- a bit of a part that is 0
module _ (byte : ℕ) where
  bit_clear : (place : ℕ) → part_at byte place 1 ≡ 0 → bit_at byte place ≡ false
  unfolding bit_at
  bit_clear place e = rw e

  low_three : part_at byte 1 3 ≡ 0 → (part_at byte 1 1 ≡ 0) × (part_at byte 2 1 ≡ 0) × (part_at byte 3 1 ≡ 0)
  unfolding part_at
  low_three e = (omega arith, omega arith, omega arith)

  high_two : part_at byte 6 2 ≡ 0 → (part_at byte 6 1 ≡ 0) × (part_at byte 7 1 ≡ 0)
  unfolding part_at
  high_two e = (omega arith, omega arith)

zeros : (s : Settings) → SettingsIn s → StayZero s
zeros s ok =
    let fcr = low_three s.fcr (ok.fcr_in.fcr_zeros refl) in
    let efcr = ok.efcr_in.efcr_zeros refl in
    record {
      fcr_1 = bit_clear s.fcr 1 fcr.0;
      fcr_2 = bit_clear s.fcr 2 fcr.1;
      fcr_3 = bit_clear s.fcr 3 fcr.2;
      mcr_3 = bit_clear s.mcr 3 (ok.mcr_in.mcr_zeros refl);
      efcr_3 = bit_clear s.efcr 3 efcr.1;
      efcr_6 = bit_clear s.efcr 6 (high_two s.efcr efcr.0).0;
      efcr_7 = bit_clear s.efcr 7 (high_two s.efcr efcr.0).1;
    }

-- ---- after every history
module _ (history : List Made) (range : AllIn history) where
  pub always_well_formed : WellFormed (ran history)
  always_well_formed = well_formed_ran history range

  pub bits_stay_zero : (w : Side) → StayZero (stored w history)
  bits_stay_zero w = zeros (stored w history) (well_formed_at (ran history) w always_well_formed).settings_in

  -- and so in what a read of MCR or EFCR replies
  pub mcr_reply : (w : Side) (address : ℕ) → register_at (stored w history) address ≡ register.Mcr
      → bit_at (read_reply w (log_of history) address) 3 ≡ false
  unfolding read_of
  mcr_reply w address named = rw (read_reply_lem (ran history) w address register.Mcr named) (bits_stay_zero w).mcr_3

  pub efcr_reply : (w : Side) (address : ℕ) → register_at (stored w history) address ≡ register.Efcr
      → (bit_at (read_reply w (log_of history) address) 3 ≡ false) × (bit_at (read_reply w (log_of history) address) 6 ≡ false) × (bit_at (read_reply w (log_of history) address) 7 ≡ false)
  unfolding read_of
  efcr_reply w address named =
      rw (read_reply_lem (ran history) w address register.Efcr named)
      ((bits_stay_zero w).efcr_3, (bits_stay_zero w).efcr_6, (bits_stay_zero w).efcr_7)

answers_from_lem : (history : List Made) (d : Device) → AllIn history → WellFormed d → AnswersIn (answers_from d history)
answers_from_lem [] d range ok = tt
answers_from_lem (m ∷ history) d range ok =
    (answer_in d m range.0 ok, answers_from_lem history (answered_of d m).device range.1 (well_formed_answered d m range.0 ok))

pub replies_at_most_256 : (history : List Made) → AllIn history → AnswersIn (answers_from new_device history)
replies_at_most_256 history range = answers_from_lem history new_device range well_formed_new
