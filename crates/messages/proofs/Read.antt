-- What is read of bytes, or of a value that they spell, is what they stand for.
use Rattle.messages.proofs.Words.{◌≡◌, List, ℕ, Result, Ok, Tree, IsGood, Spells, AreBytes, Version, MsgFault, Row, Contents, contents_in, contents_of_message, Means, IsNone, Answers, ◌>>=◌, ReadsMessage, RefusesBytes, ReadsSpelled, RefusesSpelled, AnswersSpelled}
use Rattle.messages.proofs.Sent.{gives_message, gives_fault, gives_same, spelled_answers}

module _ {X M : Type 0} (see : X → M) (holds : M → Contents) (back : Contents → M) (tells : (m : M) → back (holds m) ≡ m) (v : Version) (table : List Row) (r : Result X MsgFault) where
  pub read : (b : List ℕ) → AreBytes b → Answers (λ x. holds (see x)) r (contents_in v table b)
      → ReadsMessage see (λ m. Means v table (holds m)) r b × RefusesBytes (IsNone v table) r b × Answers see r (contents_in v table b >>= λ s. Ok (back s))
  read b bytes h = (gives_message see holds back tells v table b bytes r h, gives_fault (λ x. holds (see x)) v table b bytes r h, gives_same see holds back tells r _ h)

  pub read_spelled : (u t : Tree) → u ≡ t → IsGood t → Answers (λ x. holds (see x)) r (contents_of_message v table u)
      → ReadsSpelled see (λ m. Means v table (holds m)) r t × RefusesSpelled (IsNone v table) r t × AnswersSpelled see (λ b. contents_in v table b >>= λ s. Ok (back s)) r t
  read_spelled u t same good h =
      let all = λ (b : List ℕ) (s : Spells t b). read b s.0 (spelled_answers (λ x. holds (see x)) v table u t b r same good s h) in
      ((λ b m s. (all b s).0 m), (λ b e s. (all b s).1 e), (λ b s. (all b s).2))
