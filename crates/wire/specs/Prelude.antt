-- The words of this crate's definitions, as proofs import them.
pub use Rattle.wire.specs.Versions.{versions, major_of, minor_of, has_element_ids, has_utc_times, hello_has_login, every_version}
pub use Rattle.wire.specs.Offers.{magic, is_covered, covered_by, choice_of, Covers, IsFirstCovered, CoversNone, Chooses, ProposalsChoose, offer_of, wish_version, version_answer, OffersTaken}
pub use Rattle.wire.specs.Place.{Place, start}
pub use Rattle.wire.specs.Parts.{Bite, bite, inside, past, on_data, cut_at, IsData}
pub use Rattle.wire.specs.Unfinished.{Unfinished, fresh, unfinished_at}
pub use Rattle.wire.specs.Reader.{Reader, state, outputs, Took, one_more, ends_at, takes, or_more, then_takes, ReadsPieces, items_so_far, reach, ReachesItems, meaning_reader}
pub use Rattle.wire.specs.Items.{ends, item_of, goes, refused, Step, open_at, after_limit, on_header, next, Answered, later, further, after_step, answer_from, answer_to, hands_out, wants_room}
pub use Rattle.wire.specs.Scanning.{Holds, Taken, After, with_data, TookPart, CutsAgree}
pub use Rattle.wire.specs.Texts.{chunk_of, run_of, BeginsWith}
unfoldable pub use Rattle.wire.specs.Texts.{split_chunks, written_run_by, written_run}
pub use Rattle.wire.specs.Runs.{Texts, AreBytes, AreChunks, body_of, AreRuns, messages_of, IsRun, IsWhole, IsPast}
pub use Rattle.wire.specs.Stream.{Seen, before, on_next, items_of, used_of, pieces_of, pieces_by, IsTold, AnswerFacts, used_bytes, items_handed_out, HandsOutItems, ReadsTexts, ReadsBack, TakesFirst, IsWithin, KeepsWithin, RunIsShort, TellsTooBig, Splits, SplitsIntoRuns}
pub use Rattle.wire.specs.Whole.{messages, whole, ReadsMessages, ReadsWhole, OneWhole, RefusesPast, TextsOne, WritesRun, NoShorter, BeginsNone, header_bytes, kept_bytes, KeepsFew}
pub use Rattle.wire.specs.Framing.{Item, Opening, Noop, Message, TooBig, item_at_end, item_at, chunks, Opened, opening, reading, opening_reader, at_server, at_client, items_received, items_heard, item_bytes, bytes_in_order, within, bytes_newest_first, within_newest_first, CanCome, AllCome, Spoken, FramesFronts, AreMessages, OursArrives, SaidArrives, item_in, took_by, AnswersTake, arrivals, refusal, ReadsItems, ReadersRead}
