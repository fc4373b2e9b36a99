-- A name that comes into a directory: by its form.
use Rattle.std.proofs.Common.{◌≡◌, ◌⊎◌, inl, inr, ℕ, suc, ◌+◌, ◌^◌, ◌<◌, ◌≤◌, true, false, List, [], ◌∷◌, length, Option, None, Some, refl, sym, ap, ◌∙◌, subst, arith}
use Rattle.std.specs.Prelude.{IsSome}
use Rattle.std.specs.FinMap.{FinMap, get}
use Rattle.std.specs.Ordering.{nat_cmp}
use Rattle.std.proofs.lemmas.Bool.{cond-false, cond-true}
use Rattle.crc_words.specs.Remainder.{crc32_of}
use Rattle.drafts.specs.declared.fate.Fate.{Fate}
use Rattle.gfs2_layout.specs.Holding.{Cell, Holding, InChain, Itself, Part, Pointed, cell_part, part_at}
use Rattle.gfs2_layout.specs.Inode.{height_in, is_directory_in, is_hashed_in, records_of}
use Rattle.gfs2_layout.specs.Records.{record_named}
use Rattle.glock_names.specs.declared.steps.Entry.{Entry}
use Rattle.growth_drafts.specs.Taken.{AreFreeFor, HasTaken}
use Rattle.linear_dirs.specs.Shown.{record_for}
use Rattle.hash_inserts.specs.Tables.{DraftsDirectory}
use Rattle.hash_inserts.specs.Shown.{IsSound}
use Rattle.hash_inserts.proofs.Joins.{joined}
use Rattle.hash_inserts.specs.Inserting.{CanCountOne, Converts, Inserts}
use Rattle.hash_inserts.proofs.Joined.{drafted_join, taken_join}
use Rattle.hash_inserts.proofs.Onward.{counts_still, fresh_still, room_still}
use Rattle.name_inserts.specs.Inserting.{CanGetName, IsNamedAt, PutsName, converted, in_hashed, of_converted, of_hashed}
use Rattle.name_inserts.specs.Need.{first_chain, has_linear_room, most_steps, name_need, need_in_hashed, need_within}
use Rattle.name_inserts.proofs.Converted.{need_after}

-- what a name takes in a directory of each form
pub need_hashed : (h : Holding) (name : List ℕ) → is_hashed_in h ≡ true → name_need h name ≡ need_in_hashed h name
need_hashed h name is = cond-true (is_hashed_in h) _ _ is

pub need_full : (h : Holding) (name : List ℕ) → is_hashed_in h ≡ false → has_linear_room h name ≡ false → name_need h name ≡ need_within most_steps (length name) (crc32_of name) (first_chain h) + 1
need_full h name plain full = cond-false (is_hashed_in h) _ _ plain ∙ cond-false (has_linear_room h name) _ _ full

-- ---- in a hashed directory

pub puts_hashed : (old new : FinMap nat_cmp Fate) (room left : List ℕ) (need : ℕ) (name : List ℕ) (e : Entry) (h g : Holding) → is_hashed_in h ≡ true → need ≡ need_in_hashed h name
    → Inserts old new room left need name e h g → PutsName old new room left name e h g
puts_hashed old new room left need name e h g is same inserts = record {
  taken = inserts.taken;
  few = inserts.few ∙ same ∙ sym (need_hashed h name is);
  front = inserts.takes.front;
  has = inserts.takes.has;
  drafted = inserts.takes.drafted;
  changes = λ b. elim (inserts.takes.changes b) [ inl same ↦ inl same | inr at ↦ inr (of_hashed is at) ];
  named = in_hashed h g inserts.taken is inserts.inserted;
  exchanged = inserts.exchanged;
  sound = inserts.sound;
}

-- ---- in one that becomes a hashed one

cell_there : (c : Option Cell) → IsSome c → (part : Part) × (cell_part c ≡ Some part)
cell_there None some = absurd (no some)
  where
    no : false ≡ true → ⊥
    no e = cc
cell_there (Some c) some = (c.part, refl)

cell_or_none : (c : Option Cell) → IsSome c ⊎ (IsSome c → ⊥)
cell_or_none None = inr (λ e. cc)
cell_or_none (Some c) = inl refl

-- a linear directory has no block but its dinode's
pub linear_alone : (h : Holding) → IsSound h → is_directory_in h ≡ true → is_hashed_in h ≡ false → (b : ℕ) → IsSome (h.cell b) → b ≡ h.own
linear_alone h sound directory plain b some = let c = cell_there (h.cell b) some in by c.0 c.1
  where
    stuffed : height_in h ≡ 0
    stuffed = (sound.inode.linear directory plain).stuffed

    by : (part : Part) → part_at h b ≡ Some part → b ≡ h.own
    by Itself at = sound.placed.only b at
    by (Pointed above k level first) at = absurd (omega (arith, sound.inode.tree.below b above k level first at, stuffed))
    by (InChain hash place) at = absurd (sound.inode.leafless plain b hash place at)

-- so nothing is done to any but that and those that it takes
converted_changes : (old new : FinMap nat_cmp Fate) (name : List ℕ) (h g : Holding) (taken : List ℕ) → IsSound h → is_directory_in h ≡ true → is_hashed_in h ≡ false → has_linear_room h name ≡ false
    → HasTaken h g taken → DraftsDirectory old new h g → (b : ℕ) → (get new b ≡ get old b) ⊎ IsNamedAt h g name taken b
converted_changes old new name h g taken sound directory plain full has drafted b = elim (cell_or_none (g.cell b)) [
  | inr none ↦ inl (drafted.others b none)
  | inl some ↦ elim ((has.blocks b).0 some) [
    | inl had ↦ inr (of_converted plain full (inl (linear_alone h sound directory plain b had)))
    | inr took ↦ inr (of_converted plain full (inr took))
  ]
]

module _ (old mid : FinMap nat_cmp Fate) (room between : List ℕ) (name : List ℕ) (h m : Holding) (plain : is_hashed_in h ≡ false) (full : has_linear_room h name ≡ false) (can : CanGetName h name room)
    (is : Converts old mid room between h m) (small : crc32_of name < 2 ^ 32) where
  -- it can still get the name
  pub counts_on : CanCountOne m
  counts_on = counts_still h m is.stays.records can.counts

  pub few_on : m.count < 2 ^ 64
  few_on = subst (λ n. n < 2 ^ 64) (sym is.converted.same.count) can.few

  pub absent_on : record_named (records_of m) name ≡ None
  absent_on = fresh_still h m name is.stays.records can.absent

  pub free_on : AreFreeFor m between
  free_on = room_still h m (is.block ∷ []) room between can.free is.takes.front is.takes.has

  rest : need_in_hashed m name ≡ need_within most_steps (length name) (crc32_of name) (first_chain h)
  rest = need_after h m is.block name can.sound can.directory plain is.converted is.stays.sound small

  all : name_need h name ≡ need_in_hashed m name + 1
  all = need_full h name plain full ∙ ap (λ n. n + 1) (sym rest)

  pub enough_on : need_in_hashed m name ≤ length between
  enough_on = omega (arith, all, can.enough, ap (λ (l : List ℕ). length l) is.takes.front)

  module _ (new : FinMap nat_cmp Fate) (left : List ℕ) (e : Entry) (g : Holding) (inserts : Inserts mid new between left (need_in_hashed m name) name e m g) where
    has_all : HasTaken h g (is.block ∷ inserts.taken)
    has_all = taken_join h m g (is.block ∷ []) inserts.taken is.takes.has inserts.takes.has

    drafted_all : g.own ≡ m.own → DraftsDirectory old new h g
    drafted_all own = drafted_join old mid new h m g own (λ b some. (is.takes.has.blocks b).1 (inl some)) (λ b some. (inserts.takes.has.blocks b).1 (inl some)) is.takes.drafted inserts.takes.drafted

    pub puts_converted : g.own ≡ m.own → PutsName old new room left name e h g
    puts_converted own = record {
      taken = is.block ∷ inserts.taken;
      few = ap suc inserts.few ∙ sym (all ∙ (let z : need_in_hashed m name + 1 ≡ suc (need_in_hashed m name) = omega arith in z));
      front = is.takes.front ∙ ap (λ l. is.block ∷ l) inserts.takes.front;
      has = has_all;
      drafted = drafted_all own;
      changes = converted_changes old new name h g (is.block ∷ inserts.taken) can.sound can.directory plain full has_all (drafted_all own);
      named = converted h m g is.block inserts.taken plain full is.converted is.stays.sound inserts.inserted;
      exchanged = joined h m g [] (record_for name e ∷ []) is.stays.records inserts.exchanged;
      sound = inserts.sound;
    }
