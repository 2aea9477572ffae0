use Rattle.std.proofs.Common.{sym, ◌∙◌, rules}
use Rattle.driver.specs.Prelude.{stand_of}
use Rattle.driver.proofs.Reading.{reads_none, reads_on, awaits_open}
use Rattle.driver.proofs.exchanging.read_on.Goals as goal

pub loop-buffer-init : goal.loop-buffer-init
loop-buffer-init g c = record { reads = reads_none (stand_of c.args.tracking.now) (g.I.Source.given c.args.source.now); sound = λ h. h; stays = λ h. h }

pub loop-buffer-preserved : goal.loop-buffer-preserved
loop-buffer-preserved g c =
    let so = c.loop-buffer.invariant in
    record {
      reads = reads_on so.reads (awaits_open (stand_of c.loop-buffer.tracking).rest.knows (sym c.wants_read.ensures ∙ c.loop-buffer-test.true)) c.in_ok-read_piece.ensures.reads;
      sound = λ h. so.sound (c.in_ok-read_piece.ensures.sound h);
      stays = λ h. c.read_piece.ensures.stays (so.stays h);
    }

pub returns-in_err-read_piece-clause-reads : goal.returns-in_err-read_piece-clause-reads
returns-in_err-read_piece-clause-reads g c =
    let so = c.loop-buffer.invariant in
    reads_on so.reads (awaits_open (stand_of c.loop-buffer.tracking).rest.knows (sym c.wants_read.ensures ∙ c.loop-buffer-test.true)) (search rules)
