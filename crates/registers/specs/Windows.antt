-- Definitions: "Register windows (Tables 9, 10)": which register an address names.
use Rattle.std.specs.Prelude.{ℕ, Bool, not, ◌&&◌, eqb}
use Rattle.bits.specs.Choice.{pick}
use Rattle.bits.specs.Bits.{bit_at}
use Rattle.registers.specs.declared.register.Register.{Register}
use Rattle.registers.specs.declared.register.Register.TheVariants as register
use Rattle.registers.specs.declared.settings.Settings.{Settings}

-- the registers by number, so that two can be told apart
abbrev pub place : Register → ℕ
place register.RhrThr = 0
place register.Ier = 1
place register.IirFcr = 2
place register.Lcr = 3
place register.Mcr = 4
place register.Lsr = 5
place register.Msr = 6
place register.Spr = 7
place register.Txlvl = 8
place register.Rxlvl = 9
place register.IoControl = 10
place register.Efcr = 11
place register.Tcr = 12
place register.Tlr = 13
place register.Dll = 14
place register.Dlh = 15
place register.Efr = 16
place register.Xon1 = 17
place register.Xon2 = 18
place register.Xoff1 = 19
place register.Xoff2 = 20
place register.Closed = 21

abbrev pub same : Register → Register → Bool
same r q = eqb (place r) (place q)

-- "With EFR bit 4 and MCR bit 2 both set, 6 is TCR and 7 is TLR."
unfoldable pub tcr_open : Settings → Bool
tcr_open s = bit_at s.efr 4 && bit_at s.mcr 2

-- "General set: RHR/THR 0, IER 1, IIR/FCR 2, MCR 4, LSR 5, MSR 6, SPR 7, TXLVL 8, RXLVL 9, IOControl 0E, EFCR 0F."
-- "Addresses 0A to 0D read 0 and take nothing", as any other that is closed.
unfoldable pub general_at : ℕ → Bool → Register
general_at address tcr =
    pick (eqb address 0) register.RhrThr
    (pick (eqb address 1) register.Ier
    (pick (eqb address 2) register.IirFcr
    (pick (eqb address 4) register.Mcr
    (pick (eqb address 5) register.Lsr
    (pick (eqb address 6) (pick tcr register.Tcr register.Msr)
    (pick (eqb address 7) (pick tcr register.Tlr register.Spr)
    (pick (eqb address 8) register.Txlvl
    (pick (eqb address 9) register.Rxlvl
    (pick (eqb address 14) register.IoControl
    (pick (eqb address 15) register.Efcr register.Closed))))))))))

-- "LCR = BF: EFR 2, XON1 4, XON2 5, XOFF1 6, XOFF2 7."
unfoldable pub enhanced_at : ℕ → Register
enhanced_at address =
    pick (eqb address 2) register.Efr
    (pick (eqb address 4) register.Xon1
    (pick (eqb address 5) register.Xon2
    (pick (eqb address 6) register.Xoff1
    (pick (eqb address 7) register.Xoff2 register.Closed))))

-- "Other LCR with bit 7 = 1: DLL 0, DLH 1."
unfoldable pub divisor_at : ℕ → Register
divisor_at address = pick (eqb address 0) register.Dll (pick (eqb address 1) register.Dlh register.Closed)

-- "LCR (3) is always open. LCR bit 7 = 0: general set." "Any other address is closed there"
unfoldable pub register_at : Settings → ℕ → Register
register_at s address =
    pick (eqb address 3) register.Lcr
    (pick (not (bit_at s.lcr 7)) (general_at address (tcr_open s))
    (pick (eqb s.lcr 0xBF) (enhanced_at address) (divisor_at address)))
