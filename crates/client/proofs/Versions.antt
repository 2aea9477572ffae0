-- What a client holds of its stream: the bytes of a version answer, and what they are heard as; and then chunks.
use Rattle.std.proofs.Common.{◌≡◌, refl, sym, subst, ◌∙◌, ap, ℕ, ◌+◌, ◌<◌, ◌≤◌, false, Some, None, List, [], ◌∷◌, length, drop, slice_index_or, arith, length-take, bytes_eq}
use Rattle.std.proofs.lemmas.Bool.{cond_both}
use Rattle.std.proofs.lemmas.List.{drop_more}
use Rattle.wire.specs.declared.Version.{Version}
use Rattle.wire.specs.Prelude.{versions, version_answer, Unfinished, Opened}
use Rattle.messages.specs.Prelude.{Chosen, Strange, heard_among, heard_version}
use Rattle.messages_deframer.specs.Taking.{WantsRoom as ChunksWant}
use Rattle.messages_deframer.specs.Opening.{come}
use Rattle.messages_deframer.proofs.Opening.{come_open}
use Rattle.client.specs.declared.version_answer.Opening.{Opening}
use Rattle.client.specs.Prelude.{held_bytes, WantsRoom, plain}

plain_among : (vs : List Version) (bytes : List ℕ) → plain (heard_among vs bytes) ≡ heard_among vs bytes
plain_among [] bytes = cond_both (bytes_eq bytes (version_answer None)) (Chosen None) Strange (λ x. plain x ≡ x) (λ e. refl) (λ e. refl)
plain_among (v ∷ vs) bytes = cond_both (bytes_eq bytes (version_answer (Some v))) (Chosen (Some v)) (heard_among vs bytes) (λ x. plain x ≡ x) (λ e. refl) (λ e. plain_among vs bytes)

pub plain_version : (bytes : List ℕ) → plain (heard_version bytes) ≡ heard_version bytes
plain_version bytes = plain_among versions bytes

-- an answer that isn't that of the version at a place is heard among those after it
pub heard_later : (vs : List Version) (i : ℕ) (v : Version) (bytes : List ℕ) → i < length vs → bytes_eq bytes (version_answer (Some (slice_index_or vs i v))) ≡ false → heard_among (drop i vs) bytes ≡ heard_among (drop (i + 1) vs) bytes
heard_later vs i v bytes l e = ap (λ us. heard_among us bytes) (drop_more vs i v l) ∙ rw e refl

-- how many have come
pub held-length : (o : Opening) → length o.bytes ≡ 4 → o.len ≤ 4 → length (held_bytes o) ≡ o.len
held-length o four most = omega (arith, length-take o.len o.bytes)

-- all of the answer has come
pub all_held : (o : Opening) → length o.bytes ≡ 4 → o.len ≤ 4 → 4 ≤ o.len → 4 ≤ length (held_bytes o)
all_held o four most least = omega (arith, held-length o four most)

-- chunks want room
pub chunks_want : (o : Opening) (u : Unfinished) (piece : List ℕ) → 4 ≤ length (held_bytes o) → ChunksWant u piece → WantsRoom (come 4 (held_bytes o) u) piece
chunks_want o u piece all w = subst (λ (x : Opened). WantsRoom x piece) (sym (come_open 4 (held_bytes o) u piece all)) (record { good = w.good; some = w.some })
