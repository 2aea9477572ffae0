use Rattle.std.proofs.Common.{string_bytes}
use Rattle.cli_serve.proofs.Lines.{error_line}
use Rattle.cli_serve.proofs.reasons.error_words.Goals as goal

pub returns : goal.returns
returns c = error_line (string_bytes c.in_ok-words.words) c.args.name.now (string_bytes c.in_ok-own.own) c.in_ok-words.ensures.ok
