-- Streams that begin with a fixed number of bytes, and the items of their fronts.
use Rattle.std.proofs.Common.{◌≡◌, refl, sym, ◌∙◌, ap, ℕ, ◌+◌, ◌-◌, ◌<◌, ◌≤◌, Bool, cond, true, false, eqb, leb, inl, inr, option_to_list, List, [], ◌∷◌, ◌++◌, length, take, arith, append_assoc, append-nil, length-append, length-take, if◌then◌else◌, map, reverse, nat_le}
use Rattle.std.proofs.lemmas.List.{take-append-le, reverse-append, reverse-reverse}
use Rattle.std.proofs.Math.Seq.{take-append-add}
use Rattle.std.proofs.lemmas.Bool.{cases_lt, le-leb, lt-leb, cond_both}
use Rattle.std.proofs.lemmas.Bool.Decides.{nat_tests}
use Rattle.wire.specs.declared.offers.Wish.{Wish}
use Rattle.wire.specs.declared.offers.Wish.TheVariants.{Newest, Only}
use Rattle.wire.specs.Prelude.{Unfinished, fresh, offer_of, written_run, state, outputs, Item, Opening, Noop, Message, TooBig, chunks, Opened, opening, reading, opening_reader, items_received, items_heard, item_bytes, bytes_in_order, within, bytes_newest_first, within_newest_first, CanCome, AllCome, Spoken, FramesFronts, AreMessages, OursArrives, SaidArrives, ReadersRead}
use Rattle.wire.proofs.Readers.{outputs-append, reads_pieces}
use Rattle.wire.proofs.Framed.{fronts_within}

pub readers_read : ReadersRead
readers_read = (reads_pieces Unfinished Item chunks, λ k. reads_pieces Opened Item (opening_reader k))

-- What carries an item has its bytes: the lists of one are those of the other.
module _ (X : Type 0) (text : X → List ℕ) (item : X → Item) (same : (x : X) → item_bytes (item x) ≡ text x) where
  pub texts-map : (xs : List X) → bytes_in_order item_bytes (map item xs) ≡ bytes_in_order text xs
  texts-map [] = refl
  texts-map (x ∷ xs) = ap (λ t. t ++ bytes_in_order item_bytes (map item xs)) (same x) ∙ ap (λ t. text x ++ t) (texts-map xs)

  pub within-map : (n : ℕ) (xs : List X) → within item_bytes n (map item xs) ≡ map item (within text n xs)
  within-map n [] = refl
  within-map n (x ∷ xs) = rw (same x) (let ih = within-map (n - length (text x)) xs in grind arith)

  pub said_text-map : (xs : List X) → bytes_newest_first item_bytes (map item xs) ≡ bytes_newest_first text xs
  said_text-map [] = refl
  said_text-map (x ∷ xs) = ap (λ t. bytes_newest_first item_bytes (map item xs) ++ t) (same x) ∙ ap (λ t. t ++ text x) (said_text-map xs)

  pub said_within-map : (n : ℕ) (xs : List X) → within_newest_first item_bytes n (map item xs) ≡ map item (within_newest_first text n xs)
  said_within-map n [] = refl
  said_within-map n (x ∷ xs) = rw (said_text-map (x ∷ xs)) (let ih = said_within-map n xs in grind arith)

-- too few bytes to open the stream
before_quiet : (k : ℕ) (bs xs : List ℕ) → length bs + length xs < k → outputs (opening_reader k) (opening bs) xs ≡ []
before_quiet k bs [] h = refl
before_quiet k bs (b ∷ xs) h =
    let no : eqb (length bs + 1) k ≡ false = grind (arith, nat_tests) in
    rw no (before_quiet k (bs ++ b ∷ []) xs (omega (arith, length-append bs (b ∷ []))))

-- the bytes that open it
opening_read : (k : ℕ) (bs xs : List ℕ) → length bs + length xs ≡ k → 0 < length xs → (outputs (opening_reader k) (opening bs) xs ≡ Opening (bs ++ xs) ∷ []) × (state (opening_reader k) (opening bs) xs ≡ reading fresh)
opening_read k bs [] h some = absurd (omega arith)
opening_read k bs (b ∷ []) h some =
    let yes : eqb (length bs + 1) k ≡ true = grind (arith, nat_tests) in
    rw yes (refl, refl)
opening_read k bs (b ∷ c ∷ xs) h some =
    let no : eqb (length bs + 1) k ≡ false = grind (arith, nat_tests) in
    let more = opening_read k (bs ++ b ∷ []) (c ∷ xs) (omega (arith, length-append bs (b ∷ []))) (omega arith) in
    rw no (more.0 ∙ ap (λ l. Opening l ∷ []) (append_assoc bs (b ∷ []) (c ∷ xs)), more.1)

-- after them, chunks
reading_outputs : (k : ℕ) (s : Unfinished) (xs : List ℕ) → outputs (opening_reader k) (reading s) xs ≡ outputs chunks s xs
reading_outputs k s [] = refl
reading_outputs k s (b ∷ xs) = ap (λ l. option_to_list (chunks.item s b) ++ l) (reading_outputs k (chunks.byte s b) xs)

-- what opens a stream, and bytes after it
pub past_opening : (k : ℕ) (start more : List ℕ) → 0 < k → length start ≡ k → outputs (opening_reader k) (opening []) (start ++ more) ≡ Opening start ∷ outputs chunks fresh more
past_opening k start more some len =
    let read = opening_read k [] start (omega arith) (omega arith) in
    outputs-append Opened Item (opening_reader k) (opening []) start more
    ∙ ap (λ l. l ++ outputs (opening_reader k) (state (opening_reader k) (opening []) start) more) read.0
    ∙ ap (λ s. Opening start ∷ outputs (opening_reader k) s more) read.1
    ∙ ap (λ l. Opening start ∷ l) (reading_outputs k fresh more)

pub frames_fronts : FramesFronts
frames_fronts k start xs n some len come = cond_both (leb k n) _ _ (λ l. outputs (opening_reader k) (opening []) (take n (start ++ bytes_in_order item_bytes xs)) ≡ l)
    (λ e.
    let fits : k ≤ n = grind (arith, nat_tests, e) in
    let is : n ≡ length start + (n - k) = omega arith in
    ap (λ m. outputs (opening_reader k) (opening []) (take m (start ++ bytes_in_order item_bytes xs))) is
    ∙ ap (outputs (opening_reader k) (opening [])) (take-append-add start (bytes_in_order item_bytes xs) (n - k))
    ∙ past_opening k start (take (n - k) (bytes_in_order item_bytes xs)) some len
    ∙ ap (λ l. Opening start ∷ l) (fronts_within xs (n - k) come))
    (λ e.
    let short : n < k = grind (arith, nat_tests, e) in
    ap (outputs (opening_reader k) (opening [])) (take-append-le n start (bytes_in_order item_bytes xs) (omega arith))
    ∙ before_quiet k [] (take n start) (omega (arith, length-take n start)))

-- what a client sends
all_come : (ms : List (List ℕ)) → AreMessages ms → AllCome (map Message ms)
all_come [] h = tt
all_come (m ∷ ms) h = (h.0, all_come ms h.1)

ours_after : (start : List ℕ) (ms : List (List ℕ)) (n : ℕ) → length start ≡ 20 → AreMessages ms
    → items_received (take n (start ++ bytes_in_order written_run ms)) ≡ (if nat_le (length start) n then Opening start ∷ map Message (within written_run (n - length start) ms) else [])
ours_after start ms n len h =
    ap (λ t. items_received (take n (start ++ t))) (sym (texts-map (List ℕ) written_run Message (λ m. refl) ms))
    ∙ frames_fronts 20 start (map Message ms) n (omega arith) len (all_come ms h)
    ∙ ap (λ k. if nat_le k n then Opening start ∷ within item_bytes (n - k) (map Message ms) else []) (sym len)
    ∙ ap (λ l. if nat_le (length start) n then Opening start ∷ l else []) (within-map (List ℕ) written_run Message (λ m. refl) (n - length start) ms)

pub offered_length : (wish : Wish) → length (offer_of wish) ≡ 20
offered_length Newest = refl
offered_length (Only v) = refl

pub ours_arrives : OursArrives
ours_arrives wish ms n h = ours_after (offer_of wish) ms n (offered_length wish) h

-- ---- the newest first

cond_under : {A B : Type 0} (f : A → B) (b : Bool) (x y : A) (u v : B) → f x ≡ u → f y ≡ v → f (cond b x y) ≡ cond b u v
cond_under f true x y u v e g = e
cond_under f false x y u v e g = g

bytes_in_order-push : (xs : List Item) (x : Item) → bytes_in_order item_bytes (xs ++ x ∷ []) ≡ bytes_in_order item_bytes xs ++ item_bytes x
bytes_in_order-push [] x = append-nil (item_bytes x)
bytes_in_order-push (y ∷ xs) x = ap (λ t. item_bytes y ++ t) (bytes_in_order-push xs x) ∙ sym (append_assoc (item_bytes y) (bytes_in_order item_bytes xs) (item_bytes x))

newest_first-reverse : (xs : List Item) → bytes_newest_first item_bytes xs ≡ bytes_in_order item_bytes (reverse xs)
newest_first-reverse [] = refl
newest_first-reverse (x ∷ xs) = ap (λ t. t ++ item_bytes x) (newest_first-reverse xs) ∙ sym (bytes_in_order-push (reverse xs) x) ∙ ap (bytes_in_order item_bytes) (sym (reverse-append (x ∷ []) xs))

-- one item more at the end comes where all of it lies in the front
within-push : (n : ℕ) (xs : List Item) (x : Item) → within item_bytes n (xs ++ x ∷ []) ≡ cond (leb (length (bytes_in_order item_bytes xs ++ item_bytes x)) n) (xs ++ x ∷ []) (within item_bytes n xs)
within-push n [] x = refl
within-push n (y ∷ xs) x =
    let whole = length-append (item_bytes y ++ bytes_in_order item_bytes xs) (item_bytes x) in
    let front = length-append (item_bytes y) (bytes_in_order item_bytes xs) in
    let later = length-append (bytes_in_order item_bytes xs) (item_bytes x) in
    elim (cases_lt n (length (item_bytes y))) [
      | inl short ↦
          let a : leb (length (item_bytes y)) n ≡ false = lt-leb _ _ short in
          let b : leb (length ((item_bytes y ++ bytes_in_order item_bytes xs) ++ item_bytes x)) n ≡ false = lt-leb _ _ (omega arith) in
          rw (a, b) refl
      | inr fits ↦
          let a : leb (length (item_bytes y)) n ≡ true = le-leb _ _ fits in
          let b : leb (length ((item_bytes y ++ bytes_in_order item_bytes xs) ++ item_bytes x)) n ≡ leb (length (bytes_in_order item_bytes xs ++ item_bytes x)) (n - length (item_bytes y)) = grind (arith, nat_tests) in
          rw (a, b, within-push (n - length (item_bytes y)) xs x) (cond_under (λ l. y ∷ l) _ _ _ _ _ refl refl)
    ]

reverse-within : (n : ℕ) (xs : List Item) → reverse (within item_bytes n (reverse xs)) ≡ within_newest_first item_bytes n xs
reverse-within n [] = refl
reverse-within n (x ∷ xs) =
    ap (λ l. reverse (within item_bytes n l)) (reverse-append (x ∷ []) xs)
    ∙ ap reverse (within-push n (reverse xs) x)
    ∙ ap (λ t. reverse (cond (leb (length (t ++ item_bytes x)) n) (reverse xs ++ x ∷ []) (within item_bytes n (reverse xs)))) (sym (newest_first-reverse xs))
    ∙ cond_under reverse (leb (length (bytes_newest_first item_bytes (x ∷ xs))) n) (reverse xs ++ x ∷ []) (within item_bytes n (reverse xs)) (x ∷ xs) (within_newest_first item_bytes n xs)
    (ap reverse (sym (reverse-append (x ∷ []) xs)) ∙ reverse-reverse (x ∷ xs)) (reverse-within n xs)

-- what a server says, in order: what opens the stream, and what may come
record Begun (k : ℕ) (xs : List Item) : Type 0 where
  start : List ℕ
  rest : List Item
  ordered : reverse xs ≡ Opening start ∷ rest
  long : length start ≡ k
  come : AllCome rest

come-push : (xs : List Item) (x : Item) → AllCome xs → CanCome x → AllCome (xs ++ x ∷ [])
come-push [] x h come = (come, tt)
come-push (y ∷ xs) x h come = (h.0, come-push xs x h.1 come)

begun-push : (k : ℕ) (x : Item) (xs : List Item) → CanCome x → Begun k xs → Begun k (x ∷ xs)
begun-push k x xs come b = record { start = b.start; rest = b.rest ++ x ∷ []; ordered = reverse-append (x ∷ []) xs ∙ ap (λ l. l ++ x ∷ []) b.ordered; long = b.long; come = come-push b.rest x b.come come }

begun : (k : ℕ) (xs : List Item) → Spoken k xs → Begun k xs
begun k [] h = absurd h
begun k (Opening o ∷ xs) h = record { start = o; rest = []; ordered = ap (λ l. reverse (Opening o ∷ l)) h.1; long = h.0; come = tt }
begun k (Noop ∷ xs) h = begun-push k Noop xs tt (begun k xs h)
begun k (Message m ∷ xs) h = begun-push k (Message m) xs h.0 (begun k xs h.1)
begun k (TooBig ∷ xs) h = absurd h

pub said_arrives : SaidArrives
said_arrives xs n h =
    let b = begun 4 xs h in
    ap (λ t. reverse (items_heard (take n t))) (newest_first-reverse xs ∙ ap (bytes_in_order item_bytes) b.ordered)
    ∙ ap reverse (frames_fronts 4 b.start b.rest n (omega arith) b.long b.come)
    ∙ ap (λ k. reverse (cond (leb k n) (Opening b.start ∷ within item_bytes (n - k) b.rest) [])) (sym b.long)
    ∙ ap (λ l. reverse (within item_bytes n l)) (sym b.ordered) ∙ reverse-within n xs
