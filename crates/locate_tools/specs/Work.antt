-- What is done with each database of a run.
use Rattle.locate_engine.specs.Sought.{Sought}

-- its paths are searched for what is sought, or it is counted
pub data Work : Type 0 where
  Search : Sought → Work
  Statistics : Work
