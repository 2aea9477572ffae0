-- What a FAILURE of this product says.
use Rattle.std.specs.Prelude.{ℕ, List, codes}
use Rattle.messages.specs.declared.fault.MsgFault.{MsgFault}
use Rattle.messages.specs.declared.fault.MsgFault.TheVariants as unwritten
use Rattle.messages.specs.Summaries.{Summary, Refused}
use Rattle.engine.specs.Views.{QueryFault, unknown_text, bad_parameter, write_in_read_mode, too_many_rows}
use Rattle.server_session.specs.declared.fault.Fault.{Fault}
use Rattle.server_session.specs.declared.fault.Fault.TheVariants as fault

-- the code of a FAILURE
abbrev pub code_of : Fault → List ℕ
code_of fault.UnknownText = codes "Neo.ClientError.Statement.UnknownText"
code_of fault.Parameter = codes "Neo.ClientError.Statement.Parameter"
code_of fault.ReadOnly = codes "Neo.ClientError.Statement.ReadOnly"
code_of fault.TooManyRows = codes "Neo.ClientError.Statement.TooManyRows"
code_of fault.TooManyWrites = codes "Neo.ClientError.Transaction.TooManyWrites"
code_of fault.TokenClash = codes "Neo.ClientError.Transaction.TokenClash"
code_of fault.NotInVersion = codes "Neo.ClientError.Statement.NotInVersion"
code_of fault.RowTooLarge = codes "Neo.ClientError.Statement.RowTooLarge"
code_of fault.Unauthorized = codes "Neo.ClientError.Security.Unauthorized"
code_of fault.Invalid = codes "Neo.ClientError.Request.Invalid"

-- the message of a FAILURE
abbrev pub message_of : Fault → List ℕ
message_of fault.UnknownText = codes "unknown text"
message_of fault.Parameter = codes "bad parameter"
message_of fault.ReadOnly = codes "write in read mode"
message_of fault.TooManyRows = codes "more than 1024 rows"
message_of fault.TooManyWrites = codes "more than 1024 writes"
message_of fault.TokenClash = codes "token used with other writes"
message_of fault.NotInVersion = codes "value not in this version"
message_of fault.RowTooLarge = codes "row past 65536 bytes"
message_of fault.Unauthorized = codes "authentication refused"
message_of fault.Invalid = codes "request not valid in this state"

-- the FAILURE
abbrev pub failure : Fault → Summary
failure f = Refused (code_of f) (message_of f)

-- of a query that its engine refuses
abbrev pub of_query : QueryFault → Fault
of_query unknown_text = fault.UnknownText
of_query bad_parameter = fault.Parameter
of_query write_in_read_mode = fault.ReadOnly
of_query too_many_rows = fault.TooManyRows

-- of a response that can't be written, by what its writer refuses: too many bytes, or anything else
abbrev pub of_writer : MsgFault → Fault
of_writer unwritten.Size = fault.RowTooLarge
of_writer _ = fault.NotInVersion
