-- Definitions: "RTS", of "Trigger levels".
use Rattle.std.specs.Prelude.{Bool, true, false, not, leb}
use Rattle.bits.specs.Choice.{pick}
use Rattle.bits.specs.Bits.{differs, bit_at}
use Rattle.levels.specs.declared.trigger.Characters.{Characters}
use Rattle.registers.specs.declared.settings.Settings.{Settings}
use Rattle.levels.specs.Levels.{halt_level, resume_level}

-- "count ≥ halt"
unfoldable pub halt_reached : Settings → Characters → Bool
halt_reached s received = leb (halt_level s).0 received.0

-- "count ≤ resume"
unfoldable pub resume_reached : Settings → Characters → Bool
resume_reached s received = leb received.0 (resume_level s).0

-- the halt and resume rule: "off at count ≥ halt; else on at count ≤ resume; else as before"
unfoldable pub latch_driven : Settings → Characters → Bool → Bool
latch_driven s received latch = pick (halt_reached s received) false (pick (resume_reached s received) true latch)

-- "The latch after each event of the channel: asserted if EFR 6 is clear; else" by that rule
unfoldable pub latch_after : Settings → Characters → Bool → Bool
latch_after s received latch = pick (not (bit_at s.efr 6)) true (latch_driven s received latch)

-- "with EFCR 4, asserted exactly while the transmit queue or shift register holds something, turned over by EFCR 5; else with EFR 6, the latch; else MCR 1."
unfoldable pub rts_of : Settings → Bool → Bool → Bool
rts_of s latch busy =
    pick (bit_at s.efcr 4) (differs busy (bit_at s.efcr 5))
    (pick (bit_at s.efr 6) latch (bit_at s.mcr 1))
