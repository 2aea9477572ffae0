-- What named entries say is the same of cells and of their form at a version: whatever is named is no structure.
use Rattle.messages.proofs.Words.{option_map, ◌≡◌, ℕ, List, [], ◌∷◌, Option, refl, ap, ◌&&◌, arith, Tree, Entries, no_entries, entry_then, Version, form, form_under, Named, Others, Holds, lookup, contents_of_entry, contents_of_named, is_named, all_named, contents_of_extra}

lookup_formed : (w : Version) (name : List ℕ) (es : Entries) → lookup name (form_under w es) ≡ option_map (form w) (lookup name es)
lookup_formed w name no_entries = refl
lookup_formed w name (entry_then k t es) = grind (arith, lookup_formed w name es)

entry_kept : (w : Version) (h : Holds) (o : Option Tree) → contents_of_entry h (option_map (form w) o) ≡ contents_of_entry h o
entry_kept w h o = grind (arith, lookup_formed w)

named_kept : (v w : Version) (ns : List Named) (es : Entries) → contents_of_named v ns (form_under w es) ≡ contents_of_named v ns es
named_kept v w [] es = refl
named_kept v w (n ∷ ns) es = rw (lookup_formed w n.name es, entry_kept w n.holds (lookup n.name es), named_kept v w ns es) refl

alone_kept : (w : Version) (ns : List Named) (es : Entries) → all_named ns (form_under w es) ≡ all_named ns es
alone_kept w ns no_entries = refl
alone_kept w ns (entry_then k t es) = ap (λ b. is_named k ns && b) (alone_kept w ns es)

pub extra_kept : (v w : Version) (o : Others) (ns : List Named) (es : Entries) → contents_of_extra v o ns (form_under w es) ≡ contents_of_extra v o ns es
extra_kept v w o ns es = grind (arith, named_kept v w ns es, alone_kept w ns es)
