use Rattle.cli_output.proofs.printed_lines.put_heard.Goals as goal

pub returns-in-Row-clause-puts : goal.returns-in-Row-clause-puts
returns-in-Row-clause-puts g c = rw c.in-Row.is c.put_row.ensures.puts

pub returns-clause-puts : goal.returns-clause-puts
returns-clause-puts g c = rw c.in-Summary.is c.put_line.ensures.puts
