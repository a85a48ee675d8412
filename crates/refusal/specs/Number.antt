-- Document 01, "Refusal numbers": which number each refusal has, and what a call's answer tells.
use Rattle.std.specs.Prelude.{ℕ, List, [], Result, Ok, Err}
use Rattle.refusal.specs.Refusal.{Told}
use Rattle.refusal.specs.declared.Refusal.{Refusal}
use Rattle.refusal.specs.declared.Refusal.TheVariants.{
  IllFormed,
  NoSuchPort,
  PortDown,
  BadLength,
  BadSource,
  TaggedInside,
  NotTagged,
  NoHops,
  NoRoom,
  HeaderTooLarge,
  BadRecord,
  NoVersion,
  OutOfRange,
  PortTaken,
  BadAddress,
  TooMany,
  OutOfOrder,
  NoRoomToWrite,
  OutOfShape,
  NoSuchHost,
  ToNobody,
  NoSuchCopy,
  NoSuchLink,
  TooManyEvents,
}

abbrev pub number_of : Refusal → ℕ
number_of IllFormed = 1
number_of NoSuchPort = 2
number_of PortDown = 3
number_of BadLength = 4
number_of BadSource = 5
number_of TaggedInside = 6
number_of NotTagged = 7
number_of NoHops = 8
number_of NoRoom = 9
number_of HeaderTooLarge = 10
number_of BadRecord = 20
number_of NoVersion = 21
number_of OutOfRange = 22
number_of PortTaken = 23
number_of BadAddress = 24
number_of TooMany = 25
number_of OutOfOrder = 26
number_of NoRoomToWrite = 27
number_of OutOfShape = 28
number_of NoSuchHost = 30
number_of ToNobody = 31
number_of NoSuchCopy = 32
number_of NoSuchLink = 33
number_of TooManyEvents = 34

-- the number of an answer: 0 where the call isn't refused
abbrev pub refused_as : {A : Type 0} → Result A Refusal → ℕ
refused_as (Ok a) = 0
refused_as (Err r) = number_of r

-- what an answer tells, by what its value tells
abbrev pub told : {A : Type 0} → (A → List ℕ) → Result A Refusal → Told
told values (Ok a) = record { number = 0; values = values a }
told values (Err r) = record { number = number_of r; values = [] }
