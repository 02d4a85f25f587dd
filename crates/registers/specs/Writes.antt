-- Definitions: what a write makes of the stored registers.
use Rattle.std.specs.Prelude.{ℕ, Bool, false, ◌&&◌, ◌||◌, Option, Some, None}
use Rattle.bits.specs.Choice.{pick}
use Rattle.bits.specs.Bits.{bit_at, replaced_at}
use Rattle.registers.specs.declared.register.Register.{Register}
use Rattle.registers.specs.declared.register.Register.TheVariants as register
use Rattle.registers.specs.declared.settings.Setting.{Setting}
use Rattle.registers.specs.declared.settings.Settings.{Settings}
use Rattle.registers.specs.Windows.{same}

-- "Written only with EFR bit 4 set: IER 7:4, FCR 5:4, MCR 7:5 and 2; otherwise those bits keep their value."
unfoldable pub guard_open : Settings → Bool
guard_open s = bit_at s.efr 4

-- IER 7:4 under the guard
unfoldable pub ier_written : Settings → ℕ → ℕ
ier_written s byte = pick (guard_open s) byte (replaced_at byte s.ier 4 4)

-- "FCR 3 .. stay 0", "Bits 1 and 2 aren't stored"; FCR 5:4 under the guard
unfoldable pub fcr_written : Settings → ℕ → ℕ
fcr_written s byte = pick (guard_open s) (replaced_at byte 0 1 3) (replaced_at (replaced_at byte 0 1 3) s.fcr 4 2)

-- "MCR 3 .. stay 0"; MCR 7:5 and 2 under the guard
unfoldable pub mcr_written : Settings → ℕ → ℕ
mcr_written s byte =
    pick (guard_open s) (replaced_at byte 0 3 1)
    (replaced_at (replaced_at (replaced_at byte 0 3 1) s.mcr 5 3) s.mcr 2 1)

-- "EFCR 7, 6, 3 stay 0"
unfoldable pub efcr_written : ℕ → ℕ
efcr_written byte = replaced_at (replaced_at byte 0 6 2) 0 3 1

-- "DLL and DLH take nothing while IER 4 is set."
unfoldable pub divisor_written : Settings → ℕ → ℕ → ℕ
divisor_written s old byte = pick (bit_at s.ier 4) old byte

-- what a register takes of a byte that is written to it; FCR is written at IIR's address
unfoldable pub taken_by : Settings → Register → ℕ → ℕ
taken_by s written byte =
    pick (same written register.Ier) (ier_written s byte)
    (pick (same written register.IirFcr) (fcr_written s byte)
    (pick (same written register.Mcr) (mcr_written s byte)
    (pick (same written register.Efcr) (efcr_written byte)
    (pick (same written register.Dll) (divisor_written s s.dll byte)
    (pick (same written register.Dlh) (divisor_written s s.dlh byte) byte)))))

-- what a write sets; a byte for THR goes to the queue, and a closed register is none
unfoldable pub setting_of : Settings → Register → ℕ → Option Setting
setting_of s written byte =
    pick (same written register.RhrThr || same written register.Closed) None
    (Some (record { register = written; byte = taken_by s written byte }))

-- a stored register, where some register is set to a byte
unfoldable pub if_set : Setting → Register → ℕ → ℕ
if_set set stored old = pick (same set.register stored) set.byte old

-- each stored register, where one is set. "Writes to LSR, MSR, TXLVL and RXLVL do nothing", nor do those to IOControl and a
-- closed address, to what is stored.
unfoldable pub with_setting : Settings → Setting → Settings
with_setting s set =
    record {
      lcr = if_set set register.Lcr s.lcr;
      ier = if_set set register.Ier s.ier;
      fcr = if_set set register.IirFcr s.fcr;
      mcr = if_set set register.Mcr s.mcr;
      spr = if_set set register.Spr s.spr;
      efr = if_set set register.Efr s.efr;
      efcr = if_set set register.Efcr s.efcr;
      tcr = if_set set register.Tcr s.tcr;
      tlr = if_set set register.Tlr s.tlr;
      dll = if_set set register.Dll s.dll;
      dlh = if_set set register.Dlh s.dlh;
      xon1 = if_set set register.Xon1 s.xon1;
      xon2 = if_set set register.Xon2 s.xon2;
      xoff1 = if_set set register.Xoff1 s.xoff1;
      xoff2 = if_set set register.Xoff2 s.xoff2;
    }

-- and all that is stored after an event, which sets one register or none
abbrev pub with_any : Settings → Option Setting → Settings
with_any s None = s
with_any s (Some set) = with_setting s set

-- whether an event sets a register
abbrev pub sets : Option Setting → Register → Bool
sets None stored = false
sets (Some set) stored = same set.register stored

-- IOControl: "writing bit 3 resets the device"
unfoldable pub resets_device : Register → ℕ → Bool
resets_device written byte = same written register.IoControl && bit_at byte 3
