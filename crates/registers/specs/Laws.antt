-- Laws: what follows from the definitions: registers told apart, what setting none comes to, and that what is stored stays
-- within its bounds.
use Rattle.std.specs.Prelude.{ℕ, ◌<◌, ◌≡◌, true, false, ◌||◌, List, [], ◌∷◌, get_or, Option, Some, None}
use Rattle.std.proofs.Common.{arith, sym, ap, ◌∙◌, eqb-true}
use Rattle.std.proofs.Math.Path.{refl}
use denote.Enum.Bare.{sameb}
use denote.Enum.Declared.{tag_of}
use Rattle.bits.specs.Choice.{pick, pick_by, apart}
use Rattle.bits.specs.Bits.{bit_at, part_at, replaced_at}
use Rattle.bits.specs.Laws.{replaced_fits, zeroed_part, replaced_above, replaced_below}
use Rattle.registers.specs.contracts.register.Register.{the_type}
use Rattle.registers.specs.declared.register.Register.{Register}
use Rattle.registers.specs.declared.register.Register.TheVariants as register
use Rattle.registers.specs.declared.settings.Setting.{Setting}
use Rattle.registers.specs.declared.settings.Settings.{Settings}
use Rattle.registers.specs.Windows.{place, same}
use Rattle.registers.specs.Writes.{guard_open, ier_written, fcr_written, mcr_written, efcr_written, divisor_written, taken_by, setting_of, if_set, with_setting, with_any, sets}
use Rattle.registers.specs.Pairs.{chooses_first, pair_at}
use Rattle.registers.specs.Bounds.{MayHold, SettingIn, SettingsIn, PairIn}

-- ---- two registers of one place are one
abbrev by_place : List Register
by_place =
    register.RhrThr ∷ register.Ier ∷ register.IirFcr ∷ register.Lcr ∷ register.Mcr ∷ register.Lsr ∷ register.Msr ∷ register.Spr
    ∷ register.Txlvl ∷ register.Rxlvl ∷ register.IoControl ∷ register.Efcr ∷ register.Tcr ∷ register.Tlr ∷ register.Dll
    ∷ register.Dlh ∷ register.Efr ∷ register.Xon1 ∷ register.Xon2 ∷ register.Xoff1 ∷ register.Xoff2 ∷ register.Closed ∷ []

found_by_place : (r : Register) → r ≡ get_or by_place (place r) register.Closed
found_by_place register.RhrThr = refl
found_by_place register.Ier = refl
found_by_place register.IirFcr = refl
found_by_place register.Lcr = refl
found_by_place register.Mcr = refl
found_by_place register.Lsr = refl
found_by_place register.Msr = refl
found_by_place register.Spr = refl
found_by_place register.Txlvl = refl
found_by_place register.Rxlvl = refl
found_by_place register.IoControl = refl
found_by_place register.Efcr = refl
found_by_place register.Tcr = refl
found_by_place register.Tlr = refl
found_by_place register.Dll = refl
found_by_place register.Dlh = refl
found_by_place register.Efr = refl
found_by_place register.Xon1 = refl
found_by_place register.Xon2 = refl
found_by_place register.Xoff1 = refl
found_by_place register.Xoff2 = refl
found_by_place register.Closed = refl

pub same_is : (r q : Register) → same r q ≡ true → r ≡ q
same_is r q h =
    found_by_place r
    ∙ ap (λ (n : ℕ). get_or by_place n register.Closed) (eqb-true (place r) (place q) h)
    ∙ sym (found_by_place q)

-- ---- and `==` tells two apart as their places do
tagged_by_place : (r : Register) → tag_of the_type r ≡ place r
tagged_by_place register.RhrThr = refl
tagged_by_place register.Ier = refl
tagged_by_place register.IirFcr = refl
tagged_by_place register.Lcr = refl
tagged_by_place register.Mcr = refl
tagged_by_place register.Lsr = refl
tagged_by_place register.Msr = refl
tagged_by_place register.Spr = refl
tagged_by_place register.Txlvl = refl
tagged_by_place register.Rxlvl = refl
tagged_by_place register.IoControl = refl
tagged_by_place register.Efcr = refl
tagged_by_place register.Tcr = refl
tagged_by_place register.Tlr = refl
tagged_by_place register.Dll = refl
tagged_by_place register.Dlh = refl
tagged_by_place register.Efr = refl
tagged_by_place register.Xon1 = refl
tagged_by_place register.Xon2 = refl
tagged_by_place register.Xoff1 = refl
tagged_by_place register.Xoff2 = refl
tagged_by_place register.Closed = refl

pub equal_is_same : (r q : Register) → sameb the_type r q ≡ same r q
equal_is_same r q = rw (tagged_by_place r, tagged_by_place q)

-- ---- a closed register holds nothing
pub closed_sets_none : (s : Settings) (set : Setting) → set.register ≡ register.Closed → with_setting s set ≡ s
unfolding with_setting if_set
closed_sets_none s set closed = rw closed

pub closed_written : (s : Settings) (byte : ℕ) → setting_of s register.Closed byte ≡ None
unfolding setting_of
closed_written s byte = refl

-- ---- and EFR stays where it is not the one that is set
pub efr_unset : (s : Settings) (setting : Option Setting) → sets setting register.Efr ≡ false → (with_any s setting).efr ≡ s.efr
unfolding with_setting if_set
efr_unset s None unset = refl
efr_unset s (Some set) unset = rw unset

-- ---- what is stored stays within its bounds
-- 0 may be held by any register, a byte by any but the three that have bits which stay 0
pub zero_held : (r : Register) → MayHold r 0
unfolding part_at
zero_held r = record { byte_in = omega arith; fcr_zeros = λ _. refl; mcr_zeros = λ _. refl; efcr_zeros = λ _. (refl, refl) }

pub byte_held : (r : Register) (byte : ℕ) → byte < 256
    → same r register.IirFcr ≡ false → same r register.Mcr ≡ false → same r register.Efcr ≡ false → MayHold r byte
byte_held r byte fits fcr mcr efcr =
    record {
      byte_in = fits;
      fcr_zeros = λ h. absurd (apart (sym fcr ∙ h));
      mcr_zeros = λ h. absurd (apart (sym mcr ∙ h));
      efcr_zeros = λ h. absurd (apart (sym efcr ∙ h));
    }

-- and by each of the three a byte where those are 0
fcr_holds : (byte : ℕ) → byte < 256 → part_at byte 1 3 ≡ 0 → MayHold register.IirFcr byte
fcr_holds byte fits zeros =
    record { byte_in = fits; fcr_zeros = λ _. zeros; mcr_zeros = λ h. absurd (apart h); efcr_zeros = λ h. absurd (apart h) }

mcr_holds : (byte : ℕ) → byte < 256 → part_at byte 3 1 ≡ 0 → MayHold register.Mcr byte
mcr_holds byte fits zero =
    record { byte_in = fits; fcr_zeros = λ h. absurd (apart h); mcr_zeros = λ _. zero; efcr_zeros = λ h. absurd (apart h) }

pub efcr_holds : (byte : ℕ) → byte < 256 → part_at byte 6 2 ≡ 0 → part_at byte 3 1 ≡ 0 → MayHold register.Efcr byte
efcr_holds byte fits zeros zero =
    record { byte_in = fits; fcr_zeros = λ h. absurd (apart h); mcr_zeros = λ h. absurd (apart h); efcr_zeros = λ _. (zeros, zero) }

pub none_in : SettingIn None
none_in = tt

-- what a register takes of a byte that is written to it, it may hold
module _ (s : Settings) (ok : SettingsIn s) (byte : ℕ) (fits : byte < 256) where
  zeroed_fits : (place width : ℕ) → replaced_at byte 0 place width < 256
  zeroed_fits place width = replaced_fits byte 0 place width fits (omega arith)

  ier_taken : MayHold register.Ier (ier_written s byte)
  unfolding ier_written
  ier_taken =
      pick_by (MayHold register.Ier) (guard_open s) (λ _. byte_held register.Ier byte fits refl refl refl)
      (λ _. byte_held register.Ier (replaced_at byte s.ier 4 4) (replaced_fits byte s.ier 4 4 fits ok.ier_in.byte_in) refl refl refl)

  fcr_taken : MayHold register.IirFcr (fcr_written s byte)
  unfolding fcr_written
  fcr_taken =
      let stored = replaced_at byte 0 1 3 in
      let zeros : part_at stored 1 3 ≡ 0 = zeroed_part byte 1 3 in
      pick_by (MayHold register.IirFcr) (guard_open s)
      (λ _. fcr_holds stored (zeroed_fits 1 3) zeros)
      (λ _. fcr_holds (replaced_at stored s.fcr 4 2) (replaced_fits stored s.fcr 4 2 (zeroed_fits 1 3) ok.fcr_in.byte_in)
      (replaced_below stored s.fcr 4 2 1 3 (omega arith) ∙ zeros))

  mcr_taken : MayHold register.Mcr (mcr_written s byte)
  unfolding mcr_written
  mcr_taken =
      let stored = replaced_at byte 0 3 1 in
      let high = replaced_at stored s.mcr 5 3 in
      let high_fits : high < 256 = replaced_fits stored s.mcr 5 3 (zeroed_fits 3 1) ok.mcr_in.byte_in in
      let zero : part_at stored 3 1 ≡ 0 = zeroed_part byte 3 1 in
      pick_by (MayHold register.Mcr) (guard_open s)
      (λ _. mcr_holds stored (zeroed_fits 3 1) zero)
      (λ _. mcr_holds (replaced_at high s.mcr 2 1) (replaced_fits high s.mcr 2 1 high_fits ok.mcr_in.byte_in)
      (replaced_above high s.mcr 2 1 3 1 (omega arith) ∙ replaced_below stored s.mcr 5 3 3 1 (omega arith) ∙ zero))

  efcr_taken : MayHold register.Efcr (efcr_written byte)
  unfolding efcr_written
  efcr_taken =
      let stored = replaced_at byte 0 6 2 in
      efcr_holds (replaced_at stored 0 3 1) (replaced_fits stored 0 3 1 (zeroed_fits 6 2) (omega arith))
      (replaced_above stored 0 3 1 6 2 (omega arith) ∙ zeroed_part byte 6 2) (zeroed_part stored 3 1)

  divisor_taken : (old : ℕ) → old < 256 → divisor_written s old byte < 256
  unfolding divisor_written
  divisor_taken old old_fits = pick_by (λ (n : ℕ). n < 256) (bit_at s.ier 4) (λ _. old_fits) (λ _. fits)

  -- the register that is written, or another one
  written_to : (written r : Register) {taken rest : ℕ} → MayHold r taken → (same written r ≡ false → MayHold written rest)
      → MayHold written (pick (same written r) taken rest)
  written_to written r held else_held =
      pick_by (MayHold written) (same written r) (λ h. rw (same_is written r h) held) else_held

  taken_held : (written : Register) → MayHold written (taken_by s written byte)
  unfolding taken_by
  taken_held written =
      written_to written register.Ier ier_taken
      (λ _. written_to written register.IirFcr fcr_taken
      (λ fcr. written_to written register.Mcr mcr_taken
      (λ mcr. written_to written register.Efcr efcr_taken
      (λ efcr. written_to written register.Dll (byte_held register.Dll (divisor_written s s.dll byte) (divisor_taken s.dll ok.dll_in.byte_in) refl refl refl)
      (λ _. written_to written register.Dlh (byte_held register.Dlh (divisor_written s s.dlh byte) (divisor_taken s.dlh ok.dlh_in.byte_in) refl refl refl)
      (λ _. byte_held written byte fits fcr mcr efcr))))))

  pub setting_in : (written : Register) → SettingIn (setting_of s written byte)
  unfolding setting_of
  setting_in written =
      pick_by SettingIn (same written register.RhrThr || same written register.Closed) (λ _. none_in) (λ _. taken_held written)

-- a register set to what it may hold leaves all that is stored within its bounds
module _ (s : Settings) (set : Setting) (ok : SettingsIn s) (set_in : SettingIn (Some set)) where
  held_set : (stored : Register) (old : ℕ) → MayHold stored old → MayHold stored (if_set set stored old)
  unfolding if_set
  held_set stored old old_in =
      pick_by (MayHold stored) (same set.register stored) (λ h. rw (same_is set.register stored h) at set_in) (λ _. old_in)

  all_held : SettingsIn (with_setting s set)
  unfolding with_setting
  all_held =
      record {
        lcr_in = held_set register.Lcr s.lcr ok.lcr_in;
        ier_in = held_set register.Ier s.ier ok.ier_in;
        fcr_in = held_set register.IirFcr s.fcr ok.fcr_in;
        mcr_in = held_set register.Mcr s.mcr ok.mcr_in;
        spr_in = held_set register.Spr s.spr ok.spr_in;
        efr_in = held_set register.Efr s.efr ok.efr_in;
        efcr_in = held_set register.Efcr s.efcr ok.efcr_in;
        tcr_in = held_set register.Tcr s.tcr ok.tcr_in;
        tlr_in = held_set register.Tlr s.tlr ok.tlr_in;
        dll_in = held_set register.Dll s.dll ok.dll_in;
        dlh_in = held_set register.Dlh s.dlh ok.dlh_in;
        xon1_in = held_set register.Xon1 s.xon1 ok.xon1_in;
        xon2_in = held_set register.Xon2 s.xon2 ok.xon2_in;
        xoff1_in = held_set register.Xoff1 s.xoff1 ok.xoff1_in;
        xoff2_in = held_set register.Xoff2 s.xoff2 ok.xoff2_in;
      }

pub settings_in : (s : Settings) (setting : Option Setting) → SettingsIn s → SettingIn setting → SettingsIn (with_any s setting)
settings_in s None ok none = ok
settings_in s (Some set) ok set_in = all_held s set ok set_in

-- and so has every pair of what is stored
pub pair_in : (s : Settings) (place : ℕ) → SettingsIn s → PairIn (pair_at s place)
unfolding pair_at
pair_in s place ok =
    record {
      xon_in = pick_by (λ (n : ℕ). n < 256) (chooses_first s.efr place) (λ _. ok.xon1_in.byte_in) (λ _. ok.xon2_in.byte_in);
      xoff_in = pick_by (λ (n : ℕ). n < 256) (chooses_first s.efr place) (λ _. ok.xoff1_in.byte_in) (λ _. ok.xoff2_in.byte_in);
    }
