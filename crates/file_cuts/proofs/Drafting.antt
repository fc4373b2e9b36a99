-- A draft over a file, one change after another, with blocks that are freed.
use Rattle.std.proofs.Common.{◌≡◌, inl, inr, ℕ, List, ◌++◌, sym, ◌∙◌}
use Rattle.std.proofs.lemmas.List.Elements.{Contains-append_left, Contains-append_right, Contains-append_cases}
use Rattle.std.specs.Prelude.{Contains, Some}
use Rattle.std.specs.FinMap.{FinMap}
use Rattle.std.specs.Ordering.{nat_cmp}
use Rattle.drafts.specs.declared.fate.Fate.{Fate}
use Rattle.drafts.specs.declared.fate.Fate.TheVariants.{Put}
use Rattle.gfs2_layout.specs.Holding.{Holding}
use Rattle.dinode_tree.specs.Reading.{inode_lock}
use Rattle.growth_drafts.specs.Taken.{DraftsFile, HasFreed, IsLeft, IsPutFor}

pub left_on : (old mid new : FinMap nat_cmp Fate) (h m g : Holding) (b : ℕ) → IsLeft old mid h m b → IsLeft mid new m g b → IsLeft old new h g b
left_on old mid new h m g b first second = record {
  fate = second.fate ∙ first.fate;
  had = first.had;
  bytes = second.bytes ∙ first.bytes;
  content = (λ is. first.content.0 (second.content.0 is), λ is. second.content.1 (first.content.1 is));
}

pub put_on : (mid new : FinMap nat_cmp Fate) (m g : Holding) (b : ℕ) → g.own ≡ m.own → IsPutFor mid m b → IsLeft mid new m g b → IsPutFor new g b
put_on mid new m g b own first second = record {
  plain = first.plain;
  fate = second.fate ∙ first.fate ∙ (λ t. Some (Put (inode_lock (sym own t)) first.plain (sym second.bytes t)));
  content = (λ is. second.content.1 (first.content.0 is), λ is. first.content.1 (second.content.0 is));
}

-- blocks are freed, and then more of them
pub freed_then : (h m g : Holding) (a b : List ℕ) → HasFreed h m a → HasFreed m g b → HasFreed h g (a ++ b)
freed_then h m g a b first second = record {
  count = second.count ∙ first.count;
  were = λ x freed. elim (Contains-append_cases a b x freed) [
    | inl early ↦ first.were x early
    | inr late ↦ ((first.kept x).0 (second.were x late)).0
  ];
  kept = λ x. (
    λ there.
        let late = (second.kept x).0 there in
        let early = (first.kept x).0 late.0 in
        (early.0, λ freed. elim (Contains-append_cases a b x freed) [ inl is ↦ early.1 is | inr is ↦ late.1 is ]),
    λ had. (second.kept x).1 ((first.kept x).1 (had.0, λ is. had.1 (Contains-append_left a b x is)), λ is. had.1 (Contains-append_right a b x is)),
  );
}

pub drafts_and_frees : (old mid new : FinMap nat_cmp Fate) (h m g : Holding) (a b : List ℕ) → g.own ≡ m.own → HasFreed h m a → HasFreed m g b → DraftsFile old mid h m a → DraftsFile mid new m g b → DraftsFile old new h g (a ++ b)
drafts_and_frees old mid new h m g a b own freed freed' first second = record {
  own = λ x there. elim (second.own x there) [
    | inr put ↦ inr put
    | inl left ↦ elim (first.own x left.had) [
      | inl before ↦ inl (left_on old mid new h m g x before left)
      | inr put ↦ inr (put_on mid new m g x own put left)
    ]
  ];
  frees = λ x is. elim (Contains-append_cases a b x is) [
    | inl early ↦ second.others x (λ there. ((freed.kept x).0 ((freed'.kept x).0 there).0).1 early) (λ late. ((freed.kept x).0 (freed'.were x late)).1 early) ∙ first.frees x early
    | inr late ↦ second.frees x late
  ];
  others = λ x none not.
      let not_late : Contains b x → ⊥ = λ late. not (Contains-append_right a b x late) in
      second.others x none not_late ∙ first.others x (λ mid_there. none ((freed'.kept x).1 (mid_there, not_late))) (λ early. not (Contains-append_left a b x early));
}
