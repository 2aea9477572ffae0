-- What a session's bytes make of a piece: of the handshake, and of chunks.
use Rattle.std.proofs.Common.{◌≡◌, sym, ◌∙◌, ap, subst, ℕ, ◌+◌, ◌-◌, ◌≤◌, ◌<◌, ◌++◌, List, length, take, arith, length-take, min, Option, Some}
use Rattle.std.proofs.lemmas.Bool.Decides.{nat_tests}
use Rattle.std.proofs.lemmas.List.{take_all}
use Rattle.wire.specs.Prelude.{Unfinished, fresh, takes, Item, Opened, chunks, reading, at_server}
use Rattle.packstream_incremental.proofs.Pieces.{nothing_goes_on}
use Rattle.messages.specs.Prelude.{arrival_of_offer}
use Rattle.messages_deframer.specs.Taking.{WantsRoom as ChunksWant}
use Rattle.messages_deframer.specs.Opening.{come}
use Rattle.messages_deframer.proofs.Opening.{takes_part, takes_whole, takes_open, come_part, come_open, opened}
use Rattle.server.specs.declared.input.Offer.{Offer}
use Rattle.server.specs.declared.kinds.Took.{Took}
use Rattle.server_session.specs.declared.kinds.What.{What}
use Rattle.server_session.specs.Prelude.{Kept, Receives, after_item, what_of}
use Rattle.server.specs.Prelude.{arrival, takes_item, WantsRoom, offered, fed}

-- what is told, by how many bytes were used and what ended with them
abbrev pub took_of : ℕ → What → Took
took_of used what = record { used = used; what = what }

pub offered-length : (o : Offer) → length (offered o) ≡ o.len
offered-length o = let long = o.long in let within = o.within in omega (arith, length-take o.len o.bytes)

-- ---- the handshake

module _ (old new : Offer) (u : Unfinished) (k : Kept) (piece : List ℕ) (used : ℕ) (lacks : old.len < 20) (used_is : used ≡ min (20 - old.len) (length piece)) (more : offered new ≡ offered old ++ take used piece) where
  few : length (offered old) < 20
  few = omega (arith, offered-length old)

  used_by : used ≡ min (20 - length (offered old)) (length piece)
  used_by = used_is ∙ ap (λ n. min (20 - n) (length piece)) (sym (offered-length old))

  -- it isn't whole
  pub offer_goes : new.len < 20 → takes_item k (takes at_server (come 20 (offered old) u) piece) ≡ fed (took_of used What.Part) k (come 20 (offered new) u)
  offer_goes less = ap (takes_item k) (takes_part 20 (offered old) u piece (offered new) used few used_by more (omega (arith, offered-length new)))

  -- it is whole, and this was received of it
  pub offer_ends : u ≡ fresh → (what : What) (after : Kept) → Receives what k after (arrival_of_offer new.bytes) → 20 ≤ new.len
      → takes_item k (takes at_server (come 20 (offered old) u) piece) ≡ fed (took_of used what) after (come 20 (offered new) u)
  offer_ends unread what after r most =
      let all : 20 ≤ length (offered new) = omega (arith, offered-length new) in
      let long = new.long in
      let whole : offered new ≡ new.bytes = take_all new.len new.bytes (omega (arith, long)) in
      let got = subst (λ b. Receives what k after (arrival_of_offer b)) (sym whole) r in
      ap (takes_item k) (takes_whole 20 (offered old) u piece (offered new) used few used_by more all)
      ∙ ap (λ w. fed (took_of used w) (after_item k (Some (arrival_of_offer (offered new)))) (reading fresh)) (sym got.0) ∙ ap (λ a. fed (took_of used what) a (reading fresh)) (sym got.1)
      ∙ ap (fed (took_of used what) after) (ap reading (sym unread) ∙ sym (come_open 20 (offered new) u piece all))

  -- it ends, and wants room
  pub offer_wants : 20 ≤ old.len + used → WantsRoom (come 20 (offered old) u) piece
  offer_wants most =
      let enough : 20 ≤ length (offered old) + length piece = omega (arith, used_by, offered-length old) in
      subst (λ (o : Opened). WantsRoom o piece) (sym (come_part 20 (offered old) u piece (offered new) used few used_by more)) (record { good = nothing_goes_on; some = grind (arith, nat_tests) })

-- ---- chunks

-- these were used to this item, and what was received of it was told
pub chunks_taken : (o : Offer) (u v : Unfinished) (k after : Kept) (piece : List ℕ) (used : ℕ) (what : What) (x : Option Item) → o.len ≡ 20 → takes chunks u piece ≡ record { used = used; item = x; rest = v }
    → (what ≡ what_of (arrival k x)) × (after ≡ after_item k (arrival k x)) → takes_item k (takes at_server (come 20 (offered o) u) piece) ≡ fed (took_of used what) after (come 20 (offered o) v)
chunks_taken o u v k after piece used what x whole e r =
    let all : 20 ≤ length (offered o) = omega (arith, offered-length o, whole) in
    ap (takes_item k) (takes_open 20 (offered o) u piece all ∙ ap opened e) ∙ ap (λ w. fed (took_of used w) (after_item k (arrival k x)) (reading v)) (sym r.0)
    ∙ ap (λ a. fed (took_of used what) a (reading v)) (sym r.1) ∙ ap (fed (took_of used what) after) (sym (come_open 20 (offered o) v piece all))

-- they want room
pub chunks_want : (o : Offer) (u : Unfinished) (piece : List ℕ) → o.len ≡ 20 → ChunksWant u piece → WantsRoom (come 20 (offered o) u) piece
chunks_want o u piece whole w = subst (λ (x : Opened). WantsRoom x piece) (sym (come_open 20 (offered o) u piece (omega (arith, offered-length o, whole)))) (record { good = w.good; some = w.some })
