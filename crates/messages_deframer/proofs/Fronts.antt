-- A piece that is data alone, and one that begins with a whole message.
use Rattle.std.proofs.Common.{◌≡◌, ◌↔◌, refl, sym, ◌∙◌, ap, subst, ℕ, ◌+◌, ◌-◌, ◌<◌, ◌≤◌, Bool, true, false, inr, List, [], ◌++◌, length, drop, take, Option, option_map, Some, None, Ok, arith, IfSome}
use Rattle.std.proofs.lemmas.List.{take_all}
use Rattle.wire.specs.declared.items.Piece.TheVariants as ended
use Rattle.wire.specs.declared.parts.Cut.{Cut}
use Rattle.wire.specs.declared.parts.Part.{Part}
use Rattle.wire.specs.declared.parts.Part.TheVariants as part
use Rattle.wire.specs.Prelude.{Place, start, cut_at, IsData, BeginsWith, Unfinished, fresh, unfinished_at, answer_from, wants_room, Took, takes, Item, chunks, Holds, with_data}
use Rattle.wire.proofs.First.{takes_first}
use Rattle.wire.proofs.Readers.{reads_pieces}
use Rattle.wire.proofs.Room.{part_wants}
use Rattle.packstream_incremental.specs.Prelude.{Point, Reads, MayGoOn}
use Rattle.packstream_incremental.proofs.Pieces.{nothing_goes_on}
use Rattle.messages_deframer.specs.declared.stream.Stream.{Stream}
use Rattle.messages_deframer.specs.Standing.{IsAt}
use Rattle.messages_deframer.specs.Taking.{whole_message, WantsRoom}
use Rattle.messages_deframer.specs.Scanning.{Comes, Scans}
use Rattle.messages_deframer.proofs.Coming.{comes_none, comes_on, comes_all, left_of, taken_as, from_here}
use Rattle.messages_deframer.proofs.Parts.{keeps_going}
use Rattle.messages_deframer.proofs.Taken.{empty_is, at_part, UsesUp, uses_up}

-- where room is wanted of a piece
pub wants : (s : Stream) (u v : Unfinished) (piece : List ℕ) → u ≡ v → IsAt s u → s.is_over ≡ false → MayGoOn u.body → wants_room (length u.body) (answer_from u piece) ≡ true → WantsRoom v piece
wants s u v piece same is going good room = subst (λ w. WantsRoom w piece) same (record { good = good; some = ap (wants_room (length u.body)) (from_here u piece (is.over ∙ going)) ∙ room })

-- ---- data alone

-- where the stream goes on
pub is_alone : (r : Option Place) (s : Stream) (piece : List ℕ) → s.is_over ≡ false → ((behind : Place) → (r ≡ Some behind) ↔ IsData s.chunks piece behind) → IfSome r (λ behind. (s.is_over ≡ false) × IsData s.chunks piece behind)
is_alone None s piece going found = tt
is_alone (Some behind) s piece going found = (going, (found behind).0 refl)

module _ (u : Unfinished) (piece : List ℕ) (c : Cut) (small : u.too_big ≡ false) (some : 0 < length piece) (used : c.used ≡ length piece) (what : c.what ≡ part.Data) where
  -- it has come to its end
  data_comes : (place behind : Place) (here there : Point) → Comes u piece 0 place here → c ≡ (cut_at place piece).cut → behind ≡ (cut_at place piece).place → ((b : List ℕ) → Reads here b → Reads there (b ++ piece)) → Comes u piece (0 + c.used) behind there
  data_comes place behind here there h cut_is behind_is read =
      let left : take (length piece - 0) (drop 0 piece) ≡ piece = left_of 0 piece in
      let taken : take c.used (take (length piece - 0) (drop 0 piece)) ≡ piece = ap (λ (b : List ℕ). take c.used b) left ∙ take_all c.used piece (omega (arith, used)) in
      comes_on u piece 0 place behind here there c small h some
      (cut_is ∙ ap (λ (b : List ℕ). (cut_at place b).cut) (sym left))
      (behind_is ∙ ap (λ (b : List ℕ). (cut_at place b).place) (sym left))
      (λ b reads. subst (λ (w : Part). Reads there (with_data w c.used (take (length piece - 0) (drop 0 piece)) b)) (sym what) (subst (λ (x : List ℕ). Reads there (b ++ x)) (sym taken) (read b reads)))
      (inr what)

  data_taken : (s : Stream) → s.is_over ≡ false → Comes u piece (0 + c.used) s.chunks s.reader.here → UsesUp u piece s
  data_taken s going h =
      let all : 0 + c.used ≡ length piece = omega (arith, used) in
      let scan : Scans u piece (record { used = 0 + c.used; what = part.Head }) s = comes_all u piece (0 + c.used) s small h (omega (arith, used)) in
      let took : ℕ → Took Unfinished Item = λ n. record { used = n; item = None; rest = unfinished_at s.chunks scan.body } in
      uses_up u piece (unfinished_at s.chunks scan.body) s (scan.takes ∙ ap took all) (at_part s scan.body going scan.after scan.reads)

-- the reader has read it, and the position is the one behind it
pub alone_taken : (u : Unfinished) (piece : List ℕ) (old new : Stream) → IsAt old u → (old.is_over ≡ false) × IsData old.chunks piece new.chunks → new.is_over ≡ old.is_over → ((b : List ℕ) → Reads old.reader.here b → Reads new.reader.here (b ++ piece))
    → UsesUp u piece new
alone_taken u piece old new is alone same read =
    let small : u.too_big ≡ false = is.over ∙ alone.0 in
    let used : (cut_at old.chunks piece).cut.used ≡ length piece = ap (λ (x : Cut). x.used) alone.1.cut in
    let what : (cut_at old.chunks piece).cut.what ≡ part.Data = ap (λ (x : Cut). x.what) alone.1.cut in
    data_taken u piece (cut_at old.chunks piece).cut small alone.1.some used what new (same ∙ alone.0)
    (data_comes u piece (cut_at old.chunks piece).cut small alone.1.some used what old.chunks new.chunks old.reader.here new.reader.here (comes_none old u piece is alone.0) refl alone.1.place read)

pub alone_wants : (s : Stream) (piece : List ℕ) (behind : Place) → (s.is_over ≡ false) × IsData s.chunks piece behind → (u : Unfinished) → IsAt s u → wants_room (length u.body) (answer_from u piece) ≡ true
alone_wants s piece behind alone u is =
    let small : u.too_big ≡ false = is.over ∙ alone.0 in
    let p = is.place small in
    let going : s.chunks.too_big ≡ false = sym (ap (λ (w : Unfinished). w.too_big) p.0) ∙ small in
    ap (λ w. wants_room (length u.body) (answer_from w piece)) p.0
    ∙ part_wants s.chunks u.body piece (cut_at s.chunks piece).cut going alone.1.some refl (ap (λ (x : Cut). x.what) alone.1.cut)

-- and it isn't past the limit
pub alone_going : (p q : Place) (piece : List ℕ) → p.too_big ≡ false → IsData p piece q → q.too_big ≡ false
alone_going p q piece small alone = keeps_going p q piece (cut_at p piece).cut alone.some small refl alone.place (λ e. let w : part.Data ≡ part.TooBig = sym (ap (λ (x : Cut). x.what) alone.cut) ∙ e in absurd cc)

-- ---- a message whole

-- what is lent, by what holds of it
pub whole_is : {A : Type 0} (bytes : A → List ℕ) (r : Option A) (Q P : List ℕ → Type 0) → ((m : List ℕ) → (option_map bytes r ≡ Some m) ↔ Q m) → ((m : List ℕ) → Q m → P m) → IfSome r (λ d. P (bytes d))
whole_is bytes None Q P found p = tt
whole_is bytes (Some d) Q P found p = p (bytes d) ((found (bytes d)).0 refl)

module _ (m piece : List ℕ) (begins : BeginsWith m piece) where
  takes_message : takes chunks fresh piece ≡ whole_message m fresh
  takes_message = taken_as fresh fresh piece (Ok (record { used = length m + 4; what = ended.Message m })) refl (takes_first m piece begins)

  -- with the lengths around it
  pub first_within : length m + 4 ≤ length piece
  first_within = subst (λ (t : Took Unfinished Item). t.used ≤ length piece) takes_message ((reads_pieces Unfinished Item chunks).within fresh piece)

  module _ (s : Stream) (u : Unfinished) (is : IsAt s u) (going : s.is_over ≡ false) (at : s.chunks ≡ start) where
    -- before it nothing has come
    pub none_come : u ≡ fresh
    none_come =
        let p : (u ≡ unfinished_at s.chunks u.body) × Holds u.body s.chunks = is.place (is.over ∙ going) in
        let sum : s.chunks.sum ≡ 0 = ap (λ (q : Place). q.sum) at in
        let none : u.body ≡ [] = empty_is u.body (omega (arith, p.1.0, sum)) in
        p.0 ∙ ap (λ (q : Place). unfinished_at q u.body) at ∙ ap (λ (b : List ℕ). unfinished_at start b) none

    pub first_takes : takes chunks u piece ≡ whole_message m u
    first_takes = subst (λ (v : Unfinished). takes chunks v piece ≡ whole_message m v) (sym none_come) takes_message

    pub first_wants : (v : Unfinished) → u ≡ v → WantsRoom v piece
    first_wants v same = subst (λ (w : Unfinished). WantsRoom w piece) (sym none_come ∙ same) (record { good = nothing_goes_on; some = ap (wants_room 0) (takes_first m piece begins) })

-- where nothing has come the stream stands at its start
pub at_start : (s : Stream) (u : Unfinished) → IsAt s u → u ≡ fresh → s.chunks ≡ start
at_start s u is none =
    let big : u.too_big ≡ false = ap (λ (x : Unfinished). x.too_big) none in
    let p : (u ≡ unfinished_at s.chunks u.body) × Holds u.body s.chunks = is.place big in
    let same : unfinished_at s.chunks u.body ≡ fresh = sym p.0 ∙ none in
    let header : s.chunks.header ≡ None = ap (λ (x : Unfinished). x.header) same in
    let lacks : s.chunks.lacks ≡ 0 = ap (λ (x : Unfinished). x.lacks) same in
    let going : s.chunks.too_big ≡ false = ap (λ (x : Unfinished). x.too_big) same in
    let body : length u.body ≡ 0 = ap (λ (x : Unfinished). length x.body) none in
    let sum : s.chunks.sum ≡ 0 = omega (arith, p.1.0, lacks, body) in
    place_is s.chunks header lacks sum going
  where
    place_is : (p : Place) → p.header ≡ None → p.lacks ≡ 0 → p.sum ≡ 0 → p.too_big ≡ false → p ≡ start
    place_is p a b c d =
        ap (λ (h : Option ℕ). at h p.lacks p.sum p.too_big) a ∙ ap (λ (n : ℕ). at None n p.sum p.too_big) b
        ∙ ap (λ (n : ℕ). at None 0 n p.too_big) c ∙ ap (λ (t : Bool). at None 0 0 t) d
      where
        at : Option ℕ → ℕ → ℕ → Bool → Place
        at header lacks sum too_big = record { header = header; lacks = lacks; sum = sum; too_big = too_big }
