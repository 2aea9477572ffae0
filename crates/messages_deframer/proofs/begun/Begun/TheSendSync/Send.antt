-- It owns nothing, so it may go to another thread.
use denote.Param.Send.{IsSend, owning_send}
use Rattle.messages_deframer.specs.contracts.begun.Begun.{the_row, the_type}

pub send : IsSend the_row
send = owning_send the_type tt (λ item. tt) (λ k old new. tt)
