-- What private functions read of a frame. Nothing of this has to be believed: no public contract
-- cites it.
use Rattle.std.specs.Prelude.{◌≡◌, Result, Ok, Err}
use Rattle.mr_join.specs.declared.fault.JoinFault.{JoinFault}
use Rattle.mr_join.specs.declared.frame.Frame as values
use Rattle.mr_join.specs.Frame.{Frame}

abbrev pub frame_value : values.Frame → Frame
frame_value x = record { rect = x.rect; first = x.first.now; second = x.second.now }

-- what is answered is what is there to be read
abbrev pub ReadsFrame : Result values.Frame JoinFault → Result Frame JoinFault → Type 0
ReadsFrame (Ok x) read = read ≡ Ok (frame_value x)
ReadsFrame (Err e) read = read ≡ Err e
