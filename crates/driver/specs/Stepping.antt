-- The record of how connections ended, after one more event.
use Rattle.std.specs.Prelude.{suc, ◌-◌, Some, None, [], ◌∷◌, ◌++◌}
use Rattle.driver.specs.Stands.{health}
use Rattle.driver.specs.Attempting.{streams}
use Rattle.driver.specs.Retrying.{ending}
use Rattle.driver.specs.Logged.{Past}
use Rattle.driver.specs.declared.log.Step.{Step}
use Rattle.driver.specs.declared.log.Step.TheVariants as step

abbrev pub stepped : Past → Step → Past
stepped p step.Missed = (p.0 ++ None ∷ [], p.1)
stepped p step.Opened = (p.0, suc p.1)
stepped p (step.Closed given put ended read_failed write_failed broken) =
    (p.0 ++ Some (ending (streams given.now.bytes put.now.bytes (health ended read_failed write_failed)) broken) ∷ [], p.1 - 1)
