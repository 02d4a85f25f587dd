-- Definitions: "Reset (Table 4), by kind 6 or IOControl", and a new device.
use Rattle.std.specs.Prelude.{ℕ, Bool, true, false}
use Rattle.queue.specs.Queue.{empty_queue, clears_all, after_of}
use Rattle.registers.specs.declared.settings.Settings.{Settings}
use Rattle.channel.specs.declared.channel.Channel.{Channel}
use Rattle.channel.specs.declared.state.State.{State}
use Rattle.device.specs.declared.device.Device.{Device}

-- "LCR 1D"
abbrev pub reset_lcr : ℕ
reset_lcr = 0x1D

-- "IER, FCR, MCR, EFR, TCR, TLR, EFCR 0"
abbrev pub reset_register : ℕ
reset_register = 0

-- "shift register, .. MSR 3:0, quiet count .. cleared"; "drops what waits"
abbrev pub reset_count : ℕ
reset_count = 0

-- "shift register, overrun, .. and flags cleared"; "drops what waits ..; reset also resumes and clears the flag"
abbrev pub reset_flag : Bool
reset_flag = false

-- "THR flag set (house)"
abbrev pub reset_thr_flag : Bool
reset_thr_flag = true

-- "auto-RTS latch asserted"; ".. and sets the latch on", the second
abbrev pub reset_latch : Bool
reset_latch = true

-- "A new device is a reset one with those bytes and the pins 0."
abbrev pub new_byte : ℕ
new_byte = 0

-- "DLL, DLH, SPR, XON and XOFF keep theirs."
unfoldable pub settings_reset : Settings → Settings
settings_reset s =
    record {
      lcr = reset_lcr;
      ier = reset_register;
      fcr = reset_register;
      mcr = reset_register;
      spr = s.spr;
      efr = reset_register;
      efcr = reset_register;
      tcr = reset_register;
      tlr = reset_register;
      dll = s.dll;
      dlh = s.dlh;
      xon1 = s.xon1;
      xon2 = s.xon2;
      xoff1 = s.xoff1;
      xoff2 = s.xoff2;
    }

-- "Pins are inputs and stay."
unfoldable pub lines_reset : ℕ → State
lines_reset pins =
    record {
      line = record { overrun = reset_flag; quiet = reset_count };
      shift = record { full = reset_flag; byte = reset_count };
      modem = record { pins = pins; changes = reset_count };
      flags = record { special = reset_flag; cts = reset_flag; rts = reset_flag; thr = reset_thr_flag };
      latch = reset_latch;
      flow = record { stopped = reset_flag; latch = reset_latch; waits = reset_flag; byte = reset_count };
    }

-- "both queues .. cleared"
unfoldable pub reset_of : Channel → Channel
reset_of ch =
    record {
      settings = settings_reset ch.settings;
      state = lines_reset ch.state.modem.pins;
      rx = after_of ch.rx (clears_all ch.rx);
      tx = after_of ch.tx (clears_all ch.tx);
    }

-- "a reset is the act only, on both channels"
unfoldable pub reset_device : Device → Device
reset_device d = record { a = reset_of d.a; b = reset_of d.b }

-- every stored byte as in a new device, nothing queued
unfoldable pub blank_settings : Settings
blank_settings =
    record {
      lcr = new_byte;
      ier = new_byte;
      fcr = new_byte;
      mcr = new_byte;
      spr = new_byte;
      efr = new_byte;
      efcr = new_byte;
      tcr = new_byte;
      tlr = new_byte;
      dll = new_byte;
      dlh = new_byte;
      xon1 = new_byte;
      xon2 = new_byte;
      xoff1 = new_byte;
      xoff2 = new_byte;
    }

unfoldable pub blank_channel : Channel
blank_channel = record { settings = blank_settings; state = lines_reset new_byte; rx = empty_queue; tx = empty_queue }

unfoldable pub new_device : Device
new_device = reset_device (record { a = blank_channel; b = blank_channel })
