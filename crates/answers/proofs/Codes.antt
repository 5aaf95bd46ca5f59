-- A refusal is read off what a call returns: its number, and the place that it names. 0 is no refusal.
use mathlib.Core.Path.{◌≡◌}
use native.Mathlib.Omega.{arith}
use Rattle.wire.specs.declared.Fault.TheVariants.{ShortHeader, PastFrame, PastMessage, BadContent}
use Rattle.receiver.specs.declared.Refusal.{Refusal}
use Rattle.receiver.specs.declared.Refusal.TheVariants.{Unsound, BufferSize, FrameSize, Malformed, Misplaced}
use Rattle.receiver.specs.Receive.{refusal_number, refusal_place, named}
use Rattle.answers.specs.Receiver.{code, number_in, place_in}

pub number-back : (q : Refusal) → number_in (code q) ≡ refusal_number q
number-back Unsound = omega arith
number-back BufferSize = omega arith
number-back FrameSize = omega arith
number-back (Malformed ShortHeader at) = omega arith
number-back (Malformed PastFrame at) = omega arith
number-back (Malformed PastMessage at) = omega arith
number-back (Malformed BadContent at) = omega arith
number-back Misplaced = omega arith

pub place-back : (q : Refusal) → place_in (code q) ≡ named (refusal_place q)
place-back Unsound = omega arith
place-back BufferSize = omega arith
place-back FrameSize = omega arith
place-back (Malformed ShortHeader at) = omega arith
place-back (Malformed PastFrame at) = omega arith
place-back (Malformed PastMessage at) = omega arith
place-back (Malformed BadContent at) = omega arith
place-back Misplaced = omega arith
