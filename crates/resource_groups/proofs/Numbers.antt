-- A group's header put with another number of its last inode.
use Rattle.std.proofs.Common.{◌≡◌, ◌≢◌, ℕ, ◌+◌, ◌<◌, ◌≤◌, List, [], ◌++◌, drop, get_or, refl, sym, ap, ap₂, ◌∙◌, subst, Some, Ok, inl, inr, false, arith}
use Rattle.std.specs.FinMap.{FinMap, insert}
use Rattle.std.specs.Ordering.{nat_cmp}
use Rattle.std.proofs.lemmas.Bool.{cases_lt}
use Rattle.drafts.specs.Fates.{Drafted, seen_with, seen_in}
use Rattle.drafts.specs.declared.fate.Fate.{Fate}
use Rattle.drafts.specs.declared.fate.Fate.TheVariants.{Put}
use Rattle.gfs2_layout.specs.Groups.{group_header}
use Rattle.gfs2_layout.specs.Headers.{HasHeader}
use Rattle.gfs2_layout.specs.Structures.{group_of, group_read, header_fault}
use Rattle.gfs2_layout.specs.Writing.{group_put}
use Rattle.gfs2_layout.specs.declared.group_header.GroupHeader.{GroupHeader}
use Rattle.gfs2_layout.proofs.HeaderLaws.{answer_ok, header_from}
use Rattle.glock_names.specs.Views.{Seen}
use Rattle.glock_names.specs.declared.views.Group.{Group}
use Rattle.resource_groups.specs.Shown.{IsShown, IsHeaderOf, blocks_of, bits_at, group_lock}
use Rattle.resource_groups.specs.Putting.{KeepsOthers, overlaid, seen_or}
use Rattle.resource_groups.specs.Numbering.{IsNumberPut}
use Rattle.resource_groups.proofs.Fits.{header_block}
use Rattle.resource_groups.proofs.Parts.{front, back, parted, read_is}
use Rattle.resource_groups.proofs.Puts.{IsOneChanged, front_same, back_same, seen_at, seen_apart, as_shown, block_at, block_past}
use Rattle.resource_groups.proofs.Setting.{keeps_all, keeps_put}

-- a header is put over what is seen of the group's first block
pub record IsHeaderPut (v : Seen) (m : FinMap nat_cmp Fate) (g : Group) (h : GroupHeader) (old : List ℕ) : Type 0 where
  pub some : 1 ≤ g.length
  pub seen : (seen_with v m).block_at g.addr ≡ Some old
  pub read : group_read (group_put h old) ≡ Ok h
  pub behind : drop 128 (group_put h old) ≡ drop 128 old

module _ (v : Seen) (m : FinMap nat_cmp Fate) (g : Group) (h : GroupHeader) (old : List ℕ) (is : IsHeaderPut v m g h old) (at : ℕ → List ℕ) (shown : IsShown (seen_with v m) g at) where
  abbrev m' : FinMap nat_cmp Fate
  m' = insert m g.addr (Put (group_lock g) false (group_put h old))

  abbrev pub new : ℕ → List ℕ
  new = overlaid (seen_with v m') at

  low : 0 < g.length
  low = omega (arith, is.some)

  old_is : old ≡ at g.addr
  old_is = sym (shown.same g.addr old (record { low = omega arith; high = omega (arith, is.some) }) is.seen)

  pub first_is : new g.addr ≡ group_put h old
  first_is = ap (λ o. seen_or o (at g.addr)) (seen_at v m g.addr (group_lock g) (group_put h old))

  rest_same : (c : ℕ) → IsHeaderOf g c → c ≢ g.addr → new c ≡ at c
  rest_same c own other = ap (λ o. seen_or o (at c)) (seen_apart v m g.addr c (group_lock g) (group_put h old) other) ∙ as_shown (seen_with v m) g at c ((seen_with v m).block_at c) shown own refl

  one : IsOneChanged at new g 0
  one = record { first = λ some. absurd (some refl); more = λ c own first other. ap (drop 24) (rest_same c own first) }

  bits_first : bits_at new g 0 ≡ bits_at at g 0
  bits_first = ap (drop 128) first_is ∙ is.behind ∙ ap (drop 128) old_is

  header_is : get_or (blocks_of new g) 0 [] ≡ group_put h old
  header_is = block_at new g 0 low ∙ ap new nought ∙ first_is
    where
      nought : g.addr + 0 ≡ g.addr
      nought = omega arith

  says : group_header (blocks_of new g) ≡ h
  says = ap group_of header_is ∙ sym (read_is (group_put h old) h is.read)

  more : (k : ℕ) → 0 < k → get_or (blocks_of new g) k [] ≡ get_or (blocks_of at g) k []
  more k some = elim (cases_lt k g.length) [
    | inl inside ↦ block_at new g k inside ∙ rest_same (g.addr + k) (header_block g k inside) (λ e. absurd (omega (arith, e, some))) ∙ sym (block_at at g k inside)
    | inr past ↦ block_past new g k past ∙ sym (block_past at g k past)
  ]

  pub number_put : (header : GroupHeader) (number : ℕ) → header ≡ group_header (blocks_of at g) → h ≡ record header { igeneration = number } → IsNumberPut at new g number
  number_put header number was is_so = record {
    kind = subst (HasHeader 2 200) (sym header_is) (header_from 128 2 200 (group_put h old) (answer_ok (header_fault 128 2 200 (group_put h old)) (group_of (group_put h old)) h is.read).0);
    header = says ∙ is_so ∙ ap (λ (x : GroupHeader). record x { igeneration = number }) was;
    put = first_is ∙ ap₂ group_put (sym says) old_is;
    bits = parted new g 0 low ∙ ap₂ (λ x y. x ++ (bits_at new g 0 ++ y)) (front_same at new g 0 low one) (back_same at new g 0 low one)
        ∙ ap (λ x. front at g 0 ++ (x ++ back at g 0)) bits_first ∙ sym (parted at g 0 low);
    more = more;
  }

-- ---- in a draft

module _ {V : Type 0} (seen : V → Seen) (d d1 : Drafted V) (g : Group) (h : GroupHeader) (old : List ℕ) (is : IsHeaderPut (seen d.view) d.fates g h old)
    (put : d1 ≡ record d { fates = insert d.fates g.addr (Put (group_lock g) false (group_put h old)) }) where
  pub numbered : (at : ℕ → List ℕ) (header : GroupHeader) (number : ℕ) → IsShown (seen_in seen d) g at → header ≡ group_header (blocks_of at g) → h ≡ record header { igeneration = number }
      → IsNumberPut at (overlaid (seen_in seen d1) at) g number
  numbered at header number shown was is_so =
      subst (λ (x : Drafted V). IsNumberPut at (overlaid (seen_in seen x) at) g number) (sym put) (number_put (seen d.view) d.fates g h old is at shown header number was is_so)

  pub one_put : (at : ℕ → List ℕ) → IsShown (seen_in seen d) g at → d1 ≡ record d { fates = insert d.fates g.addr (Put (group_lock g) false (overlaid (seen_in seen d1) at g.addr)) }
  one_put at shown = put ∙ ap (λ bytes. record d { fates = insert d.fates g.addr (Put (group_lock g) false bytes) })
      (sym (first_is (seen d.view) d.fates g h old is at shown) ∙ ap (λ (x : Drafted V). overlaid (seen_in seen x) at g.addr) (sym put))

  pub header_alone : KeepsOthers d d1 g
  header_alone = keeps_put d d d1 g g.addr (Put (group_lock g) false (group_put h old)) (record { low = omega arith; high = omega (arith, is.some) }) (keeps_all d d g refl) put
