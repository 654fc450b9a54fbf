-- How far a reader has come when it stops.
use Rattle.std.proofs.Common.{◌≡◌, true, false, IsTrue, refl, sym, ap, ◌∙◌}
use Rattle.byte_feed.specs.declared.damage.DbFault.{DbFault}
use Rattle.byte_feed.specs.declared.damage.DbFault.TheVariants as faults
use Rattle.mlocate_db.specs.Reader.{ReaderState}
use Rattle.dir_reuse.specs.declared.seeking.Sought.{Sought}
use Rattle.dir_reuse.specs.Seeking.{Further, finds_head, stop_of}

finds_none : (fault : DbFault) → finds_head (stop_of fault) ≡ false
finds_none faults.ReadFault = refl
finds_none faults.NotADatabase = refl
finds_none faults.TooLarge = refl
finds_none (faults.Damage d) = refl

-- where reading on is refused, no head was found
pub refused_none : (s : Sought) (fault : DbFault) (r r' : ReaderState) → s ≡ stop_of fault → IsTrue (finds_head s) → Further r r'
refused_none s fault r r' is found = absurd (let z : true ≡ false = sym found ∙ ap finds_head is ∙ finds_none fault in cc)
