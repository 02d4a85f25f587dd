-- Laws: the quiet count and the register that an arrival sets stay within their bounds, and so do a queued byte, a fate and LSR.
use Rattle.std.specs.Prelude.{ℕ, ◌+◌, ◌*◌, ◌<◌, ◌≤◌, ◌≡◌, Bool, false, not, ltb, Some}
use Rattle.std.proofs.Common.{arith, ◌∙◌, ltb-true}
use Rattle.std.proofs.Math.Path.{refl}
use Rattle.std.proofs.Math.Bool.{true}
use Rattle.bits.specs.Choice.{pick, pick_by}
use Rattle.bits.specs.Bits.{one_if, bit_at, replaced_at}
use Rattle.bits.specs.Laws.{flag_in, replaced_fits, replaced_above, cut_fits}
use Rattle.registers.specs.declared.register.Register.{Register}
use Rattle.registers.specs.declared.register.Register.TheVariants as register
use Rattle.registers.specs.declared.settings.Settings.{Settings}
use Rattle.registers.specs.Windows.{same}
use Rattle.registers.specs.Writes.{sets}
use Rattle.registers.specs.Bounds.{SettingIn, SettingsIn}
use Rattle.registers.specs.Pairs.{chooses_pair}
use Rattle.registers.specs.Laws.{none_in, efcr_holds}
use Rattle.receiver.specs.declared.arrival.Gate.{Gate}
use Rattle.receiver.specs.declared.arrival.Gate.TheVariants as gate
use Rattle.receiver.specs.declared.arrival.Heard.{Heard}
use Rattle.receiver.specs.declared.arrival.Mode.{Mode}
use Rattle.receiver.specs.declared.arrival.Mode.TheVariants as mode
use Rattle.receiver.specs.declared.line.Line.{Line}
use Rattle.receiver.specs.declared.line.Status.{Status}
use Rattle.receiver.specs.Arrivals.{mode_of, arrived_byte, equals_xoff2, unless_off, receiver_set, gate_plain, heard_plain, as_data, heard_ninth, heard_address, heard_in, heard_of}
use Rattle.receiver.specs.Line.{line_arrived, line_read, line_cleared, line_quieter, fate_number, lsr_of}

-- ---- the quiet count
pub quiet_arrived : (l : Line) (kept : Bool) → (line_arrived l kept).quiet ≤ 4
unfolding line_arrived
quiet_arrived l kept = omega arith

zero_or : (quiet : ℕ) (zero : Bool) → quiet ≤ 4 → pick zero 0 quiet ≤ 4
zero_or quiet zero q = pick_by (λ (n : ℕ). n ≤ 4) zero (λ _. omega arith) (λ _. q)

pub quiet_read : (l : Line) (read : Register) → l.quiet ≤ 4 → (line_read l read).quiet ≤ 4
unfolding line_read
quiet_read l read q = zero_or l.quiet (same read register.RhrThr) q

pub quiet_cleared : (l : Line) (clears : Bool) → l.quiet ≤ 4 → (line_cleared l clears).quiet ≤ 4
unfolding line_cleared
quiet_cleared l clears q = zero_or l.quiet clears q

one_more : (quiet : ℕ) → quiet ≤ 4 → (fewer : Bool) → ltb quiet 4 ≡ fewer → quiet + one_if fewer ≤ 4
unfolding one_if
one_more quiet q true h = let p : quiet < 4 = ltb-true quiet 4 h in omega arith
one_more quiet q false h = omega arith

pub quiet_quieter : (l : Line) → l.quiet ≤ 4 → (line_quieter l).quiet ≤ 4
unfolding line_quieter
quiet_quieter l q = one_more l.quiet q (ltb l.quiet 4) refl

-- ---- the register that an arrival sets: EFCR with its bit 1 anew
module _ (s : Settings) (ok : SettingsIn s) where
  receiver_in : (byte : ℕ) → byte < 256 → SettingIn (Some (receiver_set s byte))
  unfolding receiver_set
  receiver_in byte fits =
      let zeros = ok.efcr_in.efcr_zeros refl in
      efcr_holds (replaced_at s.efcr byte 1 1) (replaced_fits s.efcr byte 1 1 ok.efcr_in.byte_in fits)
      (replaced_above s.efcr byte 1 1 6 2 (omega arith) ∙ zeros.0) (replaced_above s.efcr byte 1 1 3 1 (omega arith) ∙ zeros.1)

  heard_in_mode : (m : Mode) (byte mark : ℕ) → SettingIn (heard_in m s byte mark).setting
  unfolding heard_plain as_data heard_ninth heard_address
  heard_in_mode mode.Plain byte mark = none_in
  heard_in_mode mode.Ninth byte mark = pick_by (λ (h : Heard). SettingIn h.setting) (not (bit_at mark 0)) (λ _. none_in) (λ _. none_in)
  heard_in_mode mode.Address byte mark =
      pick_by (λ (h : Heard). SettingIn h.setting) (not (bit_at mark 0)) (λ _. none_in)
      (λ _. pick_by (λ (h : Heard). SettingIn h.setting) (equals_xoff2 s byte mark)
      (λ _. receiver_in 0 (omega arith)) (λ _. receiver_in 2 (omega arith)))

  pub heard_in_lem : (byte mark : ℕ) → SettingIn (heard_of s byte mark).setting
  unfolding heard_of
  heard_in_lem byte mark = heard_in_mode (mode_of s) byte mark

-- and no other register
keeps_efr_in_mode : (m : Mode) (s : Settings) (byte mark : ℕ) → sets (heard_in m s byte mark).setting register.Efr ≡ false
unfolding heard_plain as_data heard_ninth heard_address receiver_set
keeps_efr_in_mode mode.Plain s byte mark = refl
keeps_efr_in_mode mode.Ninth s byte mark =
    pick_by (λ (h : Heard). sets h.setting register.Efr ≡ false) (not (bit_at mark 0)) (λ _. refl) (λ _. refl)
keeps_efr_in_mode mode.Address s byte mark =
    pick_by (λ (h : Heard). sets h.setting register.Efr ≡ false) (not (bit_at mark 0)) (λ _. refl)
    (λ _. pick_by (λ (h : Heard). sets h.setting register.Efr ≡ false) (equals_xoff2 s byte mark) (λ _. refl) (λ _. refl))

pub heard_keeps_efr : (s : Settings) (byte mark : ℕ) → sets (heard_of s byte mark).setting register.Efr ≡ false
unfolding heard_of
heard_keeps_efr s byte mark = keeps_efr_in_mode (mode_of s) s byte mark

-- ---- a byte that is queued, a fate and LSR
pub arrived_fits : (s : Settings) (byte mark : ℕ) → byte < 256 → arrived_byte s byte mark < 256
unfolding arrived_byte
arrived_fits s byte mark fits =
    cut_fits (pick (bit_at mark 2) 0 byte) s.lcr (pick_by (λ (n : ℕ). n < 256) (bit_at mark 2) (λ _. omega arith) (λ _. fits))

pub fate_in : (g : Gate) (kept : Bool) → fate_number g kept ≤ 4
unfolding fate_number
fate_in gate.Passes true = omega arith
fate_in gate.Passes false = omega arith
fate_in gate.Off kept = omega arith
fate_in gate.Elsewhere kept = omega arith
fate_in gate.Xoff kept = omega arith
fate_in gate.Xon kept = omega arith

-- ---- where EFR 1:0 compare nothing, the gate is as document 01 alone has it, and no arrival is taken as Xoff or Xon
module _ (s : Settings) (none : chooses_pair s.efr 0 ≡ false) where
  pub gate_before : (byte mark : ℕ) → gate_plain s byte mark ≡ unless_off s
  unfolding gate_plain unless_off
  gate_before byte mark = rw none

  abbrev TakenNot : Heard → Type 0
  TakenNot h = fate_number h.gate true ≤ 3

  data_taken_not : TakenNot (as_data s)
  unfolding as_data unless_off fate_number
  data_taken_not = pick_by (λ (g : Gate). fate_number g true ≤ 3) (bit_at s.efcr 1) (λ _. omega arith) (λ _. omega arith)

  taken_not_in : (m : Mode) (byte mark : ℕ) → TakenNot (heard_in m s byte mark)
  unfolding heard_plain heard_ninth heard_address as_data fate_number
  taken_not_in mode.Plain byte mark = rw (gate_before byte mark) data_taken_not
  taken_not_in mode.Ninth byte mark = pick_by TakenNot (not (bit_at mark 0)) (λ _. data_taken_not) (λ _. omega arith)
  taken_not_in mode.Address byte mark =
      pick_by TakenNot (not (bit_at mark 0)) (λ _. data_taken_not)
      (λ _. pick_by TakenNot (equals_xoff2 s byte mark) (λ _. omega arith) (λ _. omega arith))

  pub none_taken : (byte mark : ℕ) → TakenNot (heard_of s byte mark)
  unfolding heard_of
  none_taken byte mark = taken_not_in (mode_of s) byte mark

lsr_sum_in : (a b m c d e : ℕ) → a ≤ 1 → b ≤ 1 → m < 8 → c ≤ 1 → d ≤ 1 → e ≤ 1 → a + b * 2 + m * 4 + c * 32 + d * 64 + e * 128 < 256
lsr_sum_in a b m c d e ha hb hm hc hd he = omega arith

pub lsr_fits : (l : Status) → l.mark < 8 → lsr_of l < 256
unfolding lsr_of
lsr_fits l m =
    lsr_sum_in (one_if l.ready) (one_if l.overrun) l.mark (one_if l.sent) (one_if l.idle) (one_if l.error)
    (flag_in l.ready) (flag_in l.overrun) m (flag_in l.sent) (flag_in l.idle) (flag_in l.error)
