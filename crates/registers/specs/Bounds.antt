-- Definitions: what may be stored: "stored values within their bounds".
use Rattle.std.specs.Prelude.{ℕ, ◌<◌, ◌≡◌, true, Option, IfSome}
use Rattle.bits.specs.Bits.{part_at}
use Rattle.registers.specs.declared.register.Register.{Register}
use Rattle.registers.specs.declared.register.Register.TheVariants as register
use Rattle.registers.specs.declared.pair.Pair.{Pair}
use Rattle.registers.specs.declared.settings.Setting.{Setting}
use Rattle.registers.specs.declared.settings.Settings.{Settings}
use Rattle.registers.specs.Windows.{same}

-- what a register may hold: a byte. "FCR 3, MCR 3 and EFCR 7, 6, 3 stay 0"; of FCR "Bits 1 and 2 aren't stored."
pub record MayHold (r : Register) (byte : ℕ) : Type 0 where
  pub byte_in : byte < 256
  pub fcr_zeros : same r register.IirFcr ≡ true → part_at byte 1 3 ≡ 0
  pub mcr_zeros : same r register.Mcr ≡ true → part_at byte 3 1 ≡ 0
  pub efcr_zeros : same r register.Efcr ≡ true → (part_at byte 6 2 ≡ 0) × (part_at byte 3 1 ≡ 0)

-- a register set to what it may hold, or none
abbrev pub SettingIn : Option Setting → Type 0
SettingIn setting = IfSome setting (λ set. MayHold set.register set.byte)

-- each stored register holds what it may
pub record SettingsIn (s : Settings) : Type 0 where
  pub lcr_in : MayHold register.Lcr s.lcr
  pub ier_in : MayHold register.Ier s.ier
  pub fcr_in : MayHold register.IirFcr s.fcr
  pub mcr_in : MayHold register.Mcr s.mcr
  pub spr_in : MayHold register.Spr s.spr
  pub efr_in : MayHold register.Efr s.efr
  pub efcr_in : MayHold register.Efcr s.efcr
  pub tcr_in : MayHold register.Tcr s.tcr
  pub tlr_in : MayHold register.Tlr s.tlr
  pub dll_in : MayHold register.Dll s.dll
  pub dlh_in : MayHold register.Dlh s.dlh
  pub xon1_in : MayHold register.Xon1 s.xon1
  pub xon2_in : MayHold register.Xon2 s.xon2
  pub xoff1_in : MayHold register.Xoff1 s.xoff1
  pub xoff2_in : MayHold register.Xoff2 s.xoff2

-- a pair of bytes
pub record PairIn (pair : Pair) : Type 0 where
  pub xon_in : pair.xon < 256
  pub xoff_in : pair.xoff < 256
