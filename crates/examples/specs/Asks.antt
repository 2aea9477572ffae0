-- How a client is left if nothing is to be sent.
use Rattle.std.specs.Prelude.{◌≡◌}
use Rattle.messages.specs.View.{RequestView}
use Rattle.client.specs.Rest.{Rest, after_submit}
use Rattle.examples.specs.declared.asking.AskFault.{AskFault}
use Rattle.examples.specs.declared.asking.AskFault.TheVariants as ask_fault

-- as it was where the request wasn't taken; else the request waits
abbrev pub Leaves : Rest → RequestView → Rest → AskFault → Type 0
Leaves old q new (ask_fault.NotTaken e) = new ≡ old
Leaves old q new (ask_fault.NotOut e) = new ≡ after_submit old q
