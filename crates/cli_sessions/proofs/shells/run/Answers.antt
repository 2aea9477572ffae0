use Rattle.cli_sessions.proofs.Followed.{◌∙◌, [], ap, refl, append-nil, rules, false≢true, Consumes-kept, Consumes-nil, Consumes-trans, Memory, ReadFailed, Broken, Rest, result_err}
use Rattle.cli_sessions.proofs.Followed.{asks_version, fails_first, first_place, greeting, opens, parted, at_end, does_all, not-suc-le-zero, does_last, does_none, heard_none, moves_none, moves_unsent, moves_told}
use Rattle.cli_sessions.proofs.shells.run.Goals as goal

pub ask-requires : goal.ask-requires
ask-requires g c =
    let at = c.in-Ok.ensures.new.0 in
    record { lets = λ s taken n few turn. c.requires s taken n few (record { now = _; place = _; asking = asks_version; turn = turn first_place at }) }

pub send-requires : goal.send-requires
send-requires g c = λ s taken n few turn. let so = c.loop-len.invariant in c.requires s taken n few (turn _ so.script so.progress)

pub take-requires : goal.take-requires
take-requires g c = λ s taken n few turn. let so = c.loop-len.invariant in c.requires s taken n few (turn _ so.script so.progress)

pub returns-in-Err-clause-runs : goal.returns-in-Err-clause-runs
returns-in-Err-clause-runs g c =
    let now = c.args.streams.now.at in
    let moves = moves_unsent now first_place.rest.unsent in
    let talked = fails_first Memory now (record { out = 0; heard = heard_none; moves = moves; ends = λ e. absurd cc }) in
    record {
      script = [];
      read = Consumes-nil _;
      end = λ z. absurd cc;
      does = rw c.in-Err.ensures.memory (record { done = []; lines = ([], refl); place = _; talked = talked });
    }

pub returns-in-Err-ask-clause-runs : goal.returns-in-Err-ask-clause-runs
returns-in-Err-ask-clause-runs g c =
    let x = (c.in-Err-ask.ensures.asks first_place c.in-Ok.ensures.new.0).exchange in
    record { script = []; read = Consumes-nil _; end = λ z. absurd cc; does = record { done = []; lines = ([], refl); place = _; talked = fails_first _ _ x } }

pub loop-len-init : goal.loop-len-init
loop-len-init g c =
    let x = rw (← c.streams.view_is) at (c.in-Ok-ask.ensures.asks first_place c.in-Ok.ensures.new.0) in
    let told = rw (c.has_ended.ensures ∙ ap (λ (r : Rest). r.knows.over) x.at.fits, x.at.version) at c.greet.ensures in
    let reaches = does_all (opens _ _ x.exchange (moves_told _ _ (greeting (parted x.exchange.heard)) (moves_none _) told)) (λ _. x.at) in
    let none = c.in-Ok.ensures.new in
    record {
      script = [];
      read = Consumes-nil _;
      progress = record { done = []; reaches = reaches; begun = rw none.1 (λ k d l. absurd (not-suc-le-zero l)); follow = λ more. rw (none.1, none.2) refl };
    }

pub returns-in_default-clause-runs : goal.returns-in_default-clause-runs
returns-in_default-clause-runs g c =
    let so = c.loop-len.invariant in
    let read = Consumes-kept _ _ _ so.script so.read c.in_default.ensures.bytes in
    record { script = so.script; read = read; end = λ z. absurd cc; does = does_none (Broken ReadFailed) (_, at_end so.progress) so.progress.reaches }

pub returns-then-len-eq0-clause-runs : goal.returns-then-len-eq0-clause-runs
returns-then-len-eq0-clause-runs g c =
    let so = c.loop-len.invariant in
    let bytes = c.in-Ok-read.ensures.bytes in
    let read = rw (c.if-len-eq0.true, append-nil) at (Consumes-trans _ _ _ so.script _ so.read bytes.0) in
    let does = does_last (result_err c.send.result) _ so.progress (c.send.ensures.sends _ so.progress.done so.progress.reaches) in
    record { script = so.script; read = read; end = λ _. bytes.1 c.if-len-eq0.true (search rules); does = does }

pub loop-len-preserved : goal.loop-len-preserved
loop-len-preserved g c =
    let so = c.loop-len.invariant in
    record { script = _; read = Consumes-trans _ _ _ so.script _ so.read c.in-Ok-read.ensures.bytes.0; progress = c.in-Ok-take.ensures.takes _ so.script so.progress }

pub returns-in-Err-take-clause-runs : goal.returns-in-Err-take-clause-runs
returns-in-Err-take-clause-runs g c =
    let so = c.loop-len.invariant in
    let read = Consumes-trans _ _ _ so.script _ so.read c.in-Ok-read.ensures.bytes.0 in
    record { script = _; read = read; end = λ z. absurd cc; does = c.in-Err-take.ensures.takes _ so.script so.progress }

pub returns-then-len-eq0-clause-input : goal.returns-then-len-eq0-clause-input
returns-then-len-eq0-clause-input g c = λ n h. absurd (false≢true (rw c.in-Ok-read.is at (c.read.ensures.failed.1 h)))

pub returns-in-Err-take-clause-input : goal.returns-in-Err-take-clause-input
returns-in-Err-take-clause-input g c = λ n h. absurd (false≢true (rw c.in-Ok-read.is at (c.read.ensures.failed.1 h)))
