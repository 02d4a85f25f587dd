-- For proofs alone: what it is that a device agrees with the judge: the stored registers of both channels are those that the ledger
-- has, and the judged channel's receive queue holds what its tally has unread.
use Rattle.device.specs.declared.side.Side.{Side}
use Rattle.device.specs.declared.device.Device.{Device}
use Rattle.device.specs.Device.{channel_at}
use Rattle.history.specs.Judge.{Ledger}
use Rattle.history.specs.Tally.{Holds}
use Rattle.history.specs.Seen.{Same}

pub record Agrees (w : Side) (d : Device) (l : Ledger) : Type 0 where
  pub same : Same w d l
  pub holds : Holds (channel_at d w).rx l.tally
