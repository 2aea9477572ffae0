-- What is taken of a stream that so many bytes open.
use Rattle.std.proofs.Common.{◌≡◌, refl, sym, ◌∙◌, ap, ap₂, ℕ, zero, suc, ◌+◌, ◌-◌, ◌<◌, ◌≤◌, min, true, false, eqb, ltb, Option, Some, None, List, [], ◌∷◌, ◌++◌, length, take, arith, append_assoc, append-nil, length-append, length-take}
use Rattle.std.proofs.lemmas.Bool.Decides.{nat_tests}
use Rattle.std.proofs.lemmas.List.{take_all}
use Rattle.wire.specs.Prelude.{Unfinished, fresh, Took, takes, one_more, ends_at, Item, Opening, chunks, Opened, opening, reading, opening_reader}
use Rattle.messages_deframer.specs.Opening.{come}

-- what is taken of chunks, in a stream that is open
abbrev pub opened : Took Unfinished Item → Took Opened Item
opened t = record { used = t.used; item = t.item; rest = reading t.rest }

abbrev took : ℕ → Option Item → Opened → Took Opened Item
took used item rest = record { used = used; item = item; rest = rest }

module _ (k : ℕ) where
  pub goes_on : (bytes piece : List ℕ) → length bytes + length piece < k → takes (opening_reader k) (opening bytes) piece ≡ took (length piece) None (opening (bytes ++ piece))
  goes_on bytes [] h = ap (λ l. took 0 None (opening l)) (sym (append-nil bytes))
  goes_on bytes (b ∷ more) h =
      let no : eqb (length bytes + 1) k ≡ false = grind (arith, nat_tests) in
      rw no (ap one_more (goes_on (bytes ++ b ∷ []) more (omega (arith, length-append bytes (b ∷ [])))) ∙ ap (λ l. took (suc (length more)) None (opening l)) (append_assoc bytes (b ∷ []) more))

  pub opens : (bytes piece : List ℕ) (n : ℕ) → 0 < n → n ≤ length piece → length bytes + n ≡ k → takes (opening_reader k) (opening bytes) piece ≡ took n (Some (Opening (bytes ++ take n piece))) (reading fresh)
  opens bytes [] n some h e = absurd (omega arith)
  opens bytes (b ∷ more) zero some h e = absurd (omega arith)
  opens bytes (b ∷ more) (suc zero) some h e =
      let yes : eqb (length bytes + 1) k ≡ true = grind (arith, nat_tests) in
      rw yes refl
  opens bytes (b ∷ more) (suc (suc n)) some h e =
      let no : eqb (length bytes + 1) k ≡ false = grind (arith, nat_tests) in
      rw no (ap one_more (opens (bytes ++ b ∷ []) more (suc n) (omega arith) (omega arith) (omega (arith, length-append bytes (b ∷ [])))) ∙ ap (λ l. took (suc (suc n)) (Some (Opening l)) (reading fresh)) (append_assoc bytes (b ∷ []) (take (suc n) more)))

  ends_at-opened : (u : Unfinished) (o : Option Item) (t : Took Unfinished Item) → ends_at (reading u) o (opened t) ≡ opened (ends_at u o t)
  ends_at-opened u None t = refl
  ends_at-opened u (Some x) t = refl

  pub follows : (u : Unfinished) (piece : List ℕ) → takes (opening_reader k) (reading u) piece ≡ opened (takes chunks u piece)
  follows u [] = refl
  follows u (b ∷ more) =
      ap (λ t. ends_at (reading (chunks.byte u b)) (chunks.item u b) t) (follows (chunks.byte u b) more)
      ∙ ends_at-opened (chunks.byte u b) (chunks.item u b) (takes chunks (chunks.byte u b) more)

-- What is taken of a piece, by what had come before it.
module _ (k : ℕ) (held : List ℕ) (u : Unfinished) (piece : List ℕ) where
  -- the stream was open
  pub takes_open : k ≤ length held → takes (opening_reader k) (come k held u) piece ≡ opened (takes chunks u piece)
  takes_open all = let no : ltb (length held) k ≡ false = grind (arith, nat_tests) in rw no (follows k u piece)

  pub come_open : k ≤ length held → come k held u ≡ reading u
  come_open all = let no : ltb (length held) k ≡ false = grind (arith, nat_tests) in rw no refl

  module _ (more : List ℕ) (used : ℕ) (lacks : length held < k) (used_is : used ≡ min (k - length held) (length piece)) (more_is : more ≡ held ++ take used piece) where
    longer : length more ≡ length held + used
    longer = omega (arith, ap length more_is, length-append held (take used piece), length-take used piece, used_is)

    pub come_part : come k held u ≡ opening held
    come_part = let yes : ltb (length held) k ≡ true = grind (arith, nat_tests) in rw yes refl

    -- it isn't open then
    pub takes_part : length more < k → takes (opening_reader k) (come k held u) piece ≡ took used None (come k more u)
    takes_part less =
        let yes : ltb (length more) k ≡ true = grind (arith, nat_tests) in
        let all : used ≡ length piece = omega (arith, longer, used_is) in
        let whole : held ++ piece ≡ more = ap (λ l. held ++ l) (sym (take_all used piece (omega arith))) ∙ sym more_is in
        ap (λ o. takes (opening_reader k) o piece) come_part ∙ goes_on k held piece (omega (arith, longer)) ∙ ap₂ (λ n l. took n None (opening l)) (sym all) whole ∙ rw yes refl

    -- it is opened by the piece
    pub takes_whole : k ≤ length more → takes (opening_reader k) (come k held u) piece ≡ took used (Some (Opening more)) (reading fresh)
    takes_whole all =
        ap (λ o. takes (opening_reader k) o piece) come_part ∙ opens k held piece used (omega (arith, longer)) (omega (arith, used_is)) (omega (arith, longer, used_is)) ∙ ap (λ l. took used (Some (Opening l)) (reading fresh)) (sym more_is)
