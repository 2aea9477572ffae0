-- The words of this crate's definitions, as proofs import them.
pub use Rattle.world.specs.Connections.{Connection, Said, SaysVersion, SaysNoop, SaysRow, SaysSummary, heard_as, Peer, Ours, Foreign, fresh, answer_count, said_version, output, bytes_delivered, wish_of, heard_by_bytes, input, arrivals_at, waiting, kept_of, keeping}
pub use Rattle.world.specs.World.{Event, Work, Submit, World, ledger, empty, ToServer, ToClient, Opens, PutsNoop, Cut, ClientLost, ServerLost, Feeds, Seen, Opened, Submitted, Fed, Gave, SawWork, SawNoop, SawNothing, Refusal, V1, V2, V3, Effect, quiet, effect_of_submit, submit, last_item, said_to, take_item, takes, feed, to_server, newest, tells_of, tells_newest, note_now, note_given, taken_for, give, to_client, drain, effect_at_peer, said_by, effect_of_step, work, noop, server_gone, at_peer, after_effect, with_effect, at_conn, place, live, step, IsMade, IsCountedIn, WStep, taken_out, IsLedger, Reached, begins, goes_on, takes_out}
pub use Rattle.world.specs.Runs.{Ran, told_in, told_at}
pub use Rattle.world.specs.Good.{Each, is_success, is_invalid, tx_after, transaction, alone_after, alone, commit_of, change_for, before, change, said_within, delivered_whole, server_outcome, tellings_of, last_phase, outcome_in, loss, if_lost, outcome, ReportsOutcomes, change_in, entries, ExactlyOnce, Never, AtMostOnce, often, StandsOnce, Stands, MayHaveCommitted, no_invalid, sound_end, SaidAt, Good, AllGood, AllSeen, Headline, CommitsOnce}
pub use Rattle.world.specs.Rests.{live_of, sessions_from, server_rest, client_rest}
pub use Rattle.world.specs.Reports.{wrote_after, wrote_by, ReadSummary, read_after, by_peer, summaries_told, outcomes_at_loss, ordinals, waits, standing_of, standing}
pub use Rattle.world.specs.Fits.{Rest, Link, Fits, FitsOurs, FitsClient, cause_seen, FitsFlags, FitsLink, Alongside}
pub use Rattle.world.specs.Contract.{MayLack, Leaves, Answers, Follows, Replays}
pub use Rattle.world.specs.Seeing.{note_newest, newly_said, AtMostOneMore, GivesSaid, IsOpens, IsWrong, ComesWrong, RefusesDue, RefusesExactly}
pub use Rattle.world.specs.Others.{IsAt, LeavesOthers, Enters, GrowsByWork, Commits, GrowsByCommits}
pub use Rattle.world.specs.Views.{flow_of, peer_of, event_of, seen_of, wrote_of, read_of, end_peer, FitsEnd, waiting_at, link_of, client_of, opened_link, IsOpened}
pub use Rattle.world.specs.Turns.{Definition, setting_of, seen_in, Holds, Now, Submits, refusal_seen, after_loss, LosesClient, IsWorld, Before, Turns, Goes, GoesBy}
unfoldable pub use Rattle.world.specs.Turns.{FitsWorld}
pub use Rattle.world.specs.Drawing.{Takes, Draws}
pub use Rattle.world.specs.Reported.{standing_seen, StandsBy, IsReport}
pub use Rattle.world.specs.Limits.{IsFew}
