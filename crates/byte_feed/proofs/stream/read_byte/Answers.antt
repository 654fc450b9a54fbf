use Rattle.std.proofs.Common.{refl}
use Rattle.byte_feed.proofs.TakenOff.{took_same}
use Rattle.byte_feed.proofs.Streams.{byte_some, byte_none, byte_large, byte_fault}
use Rattle.byte_feed.proofs.stream.read_byte.Goals as goal

pub returns-in-Ok-Some-clause-byte : goal.returns-in-Ok-Some-clause-byte
returns-in-Ok-Some-clause-byte g c = byte_some _ _ _ _ c.in-Ok-Some.byte (rw c.in-Ok-Some.field-0-is at c.in-Ok-Some.ensures.took)

pub returns-in-Ok-None-clause-byte : goal.returns-in-Ok-None-clause-byte
returns-in-Ok-None-clause-byte g c =
    let none = (rw c.in-Ok-None.field-0-is at c.in-Ok-None.ensures.none) refl in
    byte_none _ _ _ _ (rw c.in-Ok-None.field-0-is at c.in-Ok-None.ensures.took) none.0 none.1 c.in-Ok-None.ensures.below

pub returns-in-Err-ReadFault-clause-byte : goal.returns-in-Err-ReadFault-clause-byte
returns-in-Err-ReadFault-clause-byte g c =
    byte_fault _ _ _ _ (took_same _ _ _ _ c.in-Err-ReadFault.ensures.refused c.in-Err-ReadFault.ensures.left) c.in-Err-ReadFault.ensures.empty (c.in-Err-ReadFault.ensures.goes_on (rw c.in-Err-ReadFault.field-0-is refl))

pub returns-in-Err-TooLarge-clause-byte : goal.returns-in-Err-TooLarge-clause-byte
returns-in-Err-TooLarge-clause-byte g c =
    byte_large _ _ _ _ (took_same _ _ _ _ c.in-Err-TooLarge.ensures.refused c.in-Err-TooLarge.ensures.left) (c.in-Err-TooLarge.ensures.large (rw c.in-Err-TooLarge.field-0-is refl))
