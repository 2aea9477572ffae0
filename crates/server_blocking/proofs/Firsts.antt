-- The first client of a server.
use Rattle.std.proofs.Common.{◌≡◌, refl, sym, ap, subst, ◌∙◌, ℕ, List, [], ◌++◌, Option, Some, IsSome}
use Rattle.std.specs.Io.KnownBytes.{Consumes}
use Rattle.engine.specs.Prelude.{EntryView}
use Rattle.server_session.specs.Prelude.{Setting}
use Rattle.server.specs.Prelude.{Live, Rest, empty, find, fresh, opened}
use Rattle.server_blocking.specs.declared.response.End.{End}
use Rattle.server_blocking.specs.Prelude.{Talk, conversation, with_talk, ConversesWhole, end_of, SourceView, SinkView}
use Rattle.server_blocking.proofs.Called.{here, talk-found}
use Rattle.server_blocking.proofs.Conversings.{read_all}

module _ {G : Type 0} (ledger : List EntryView) (gate : G) (conn : ℕ) (first : conn ≡ 0) where
  -- the server with its first session
  abbrev pub one : Rest G
  one = opened (empty ledger gate)

  pub one_found : find conn one.sessions ≡ Some (fresh conn)
  one_found = subst (λ (n : ℕ). find n one.sessions ≡ Some (fresh n)) (sym first) refl

  pub one_lives : IsSome (find conn one.sessions)
  one_lives = subst IsSome (sym one_found) refl

  module _ {S : Setting} {bytes : List ℕ} {Now : Rest G → Type 0} {from to : SourceView} (known : from.left ≡ Some bytes) where
    all_read : {old new : SinkView} → (h : ConversesWhole one conn S Now from to old new) → conversation S conn ledger h.read ≡ conversation S conn ledger bytes
    all_read h = read_all one conn S bytes to.left h.read (subst (λ (o : Option (List ℕ)). Consumes o to.left h.read) known h.input.known) h.ends

    pub one_out : {old new : SinkView} (items : List ℕ) → old.put ≡ [] → items ≡ new.put → ConversesWhole one conn S Now from to old new → items ≡ (conversation S 0 ledger bytes).out
    one_out items e m h =
        m ∙ h.took.grows ∙ ap (λ z. z ++ (conversation S conn ledger h.read).out) e ∙ ap (λ (t : Talk). t.out) (all_read h) ∙ ap (λ n. (conversation S n ledger bytes).out) first

    pub one_last : {old new : SinkView} (last : End) → ((x : Rest G) (s : Live) → Now x → find conn x.sessions ≡ Some s → last ≡ end_of s.kept) → ConversesWhole one conn S Now from to old new → last ≡ end_of (conversation S 0 ledger bytes).kept
    one_last last f h =
        let t = conversation S conn ledger h.read in
        f (with_talk one conn h.unfinished t.ledger t.kept) (here one conn one_lives h.unfinished t.ledger t.kept) h.now (talk-found one conn one_lives h.unfinished t.ledger t.kept)
        ∙ ap (λ (t : Talk). end_of t.kept) (all_read h)
        ∙ ap (λ n. end_of (conversation S n ledger bytes).kept) first
