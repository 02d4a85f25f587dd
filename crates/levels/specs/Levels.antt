-- Definitions: "Trigger levels". "Receive levels count characters and transmit levels count spaces".
use Rattle.std.specs.Prelude.{ℕ, ◌*◌, [], ◌∷◌, get_or, eqb}
use Rattle.bits.specs.Choice.{pick}
use Rattle.bits.specs.Bits.{part_at}
use Rattle.levels.specs.declared.trigger.Characters.{Characters}
use Rattle.levels.specs.declared.trigger.Spaces.{Spaces}
use Rattle.registers.specs.declared.settings.Settings.{Settings}

-- four times the four bits of a register from a place on
unfoldable pub fours : ℕ → ℕ → ℕ
fours register place = 4 * part_at register place 4

-- "by FCR 7:6 one of 8, 16, 56, 60"
abbrev pub fcr_level : Settings → ℕ
fcr_level s = get_or (8 ∷ 16 ∷ 56 ∷ 60 ∷ []) (part_at s.fcr 6 2) 0

-- "Receive: 4 × TLR 7:4 if not 0, else by FCR 7:6 .."
unfoldable pub receive_level : Settings → Characters
receive_level s = record { 0 = pick (eqb (fours s.tlr 4) 0) (fcr_level s) (fours s.tlr 4) }

-- "Transmit: 4 × TLR 3:0 if not 0, else by FCR 5:4 one of 8, 16, 32, 56."
unfoldable pub transmit_level : Settings → Spaces
transmit_level s =
    record { 0 = pick (eqb (fours s.tlr 0) 0) (get_or (8 ∷ 16 ∷ 32 ∷ 56 ∷ []) (part_at s.fcr 4 2) 0) (fours s.tlr 0) }

-- "Halt is 4 × TCR 3:0 ..; if TCR is 0, halt is the FCR 7:6 level" (house)
unfoldable pub halt_level : Settings → Characters
halt_level s = record { 0 = pick (eqb s.tcr 0) (fcr_level s) (fours s.tcr 0) }

-- "resume 4 × TCR 7:4; if TCR is 0, .. resume 0, 8, 16 or 56 in step (house)"
unfoldable pub resume_level : Settings → Characters
resume_level s =
    record { 0 = pick (eqb s.tcr 0) (get_or (0 ∷ 8 ∷ 16 ∷ 56 ∷ []) (part_at s.fcr 6 2) 0) (fours s.tcr 4) }
