-- How many frames are taken, once a block was put, dropped, landed, brought home or sent there.
use Rattle.std.proofs.Common.{◌≡◌, ℕ, ◌+◌, ◌≤◌, Bool, true, false, cond, not, List, [], ◌∷◌, length, Option, None, Some, ◌⊎◌, inl, inr, refl, sym, ap, subst, ◌∙◌, true≢false, arith}
use Rattle.std.proofs.lemmas.Bool.{cases_eq}
use Rattle.std.proofs.lemmas.Cmp.{nat_cmp_total}
use Rattle.std.proofs.lemmas.List.Sums.{count_by-le-length, sum_by-cons}
use Rattle.std.specs.List.{count_by, filter}
use Rattle.std.specs.Ordering.{nat_cmp}
use Rattle.std.specs.FinMap as table
use Rattle.fixed_tables.specs.Fixed.{left_by}
use Rattle.fixed_tables.proofs.Tables.{find_staying, staying_rise}
use Rattle.log_tables.specs.Versions.{Entry, Version}
use Rattle.log_tables.specs.Versions.Way.{Home}
use Rattle.log_tables.specs.Kept.{Kept, away_count, frames_taken, is_home, landed}
use Rattle.log_tables.proofs.Counting.{at_key, gone, len_with, len_without, one, passing_with, passing_without, remove_absent, apart, left}

abbrev pub Live : Type 0
Live = table.FinMap nat_cmp Entry

abbrev is_away : Entry → Bool
is_away e = not (is_home e.way)

-- ---- what was changed

pub dropped_gives : (k : Kept) (b : ℕ) (v : Version) → table.get k.fresh b ≡ Some v → frames_taken k ≡ frames_taken (record k { fresh = table.remove k.fresh b }) + 1
dropped_gives k b v at = sum _ _ _ _ (len_without k.fresh b v at)
  where
    sum : (n m f a : ℕ) → n ≡ m + 1 → n + f + a ≡ m + f + a + 1
    sum n m f a e = omega arith

pub put_takes : (k : Kept) (b : ℕ) (v : Version) → table.get k.fresh b ≡ None → frames_taken (record k { fresh = table.insert k.fresh b v }) ≡ frames_taken k + 1
put_takes k b v none = sum _ _ _ _ (len_with k.fresh b v none)
  where
    sum : (n m f a : ℕ) → n ≡ m + 1 → n + f + a ≡ m + f + a + 1
    sum n m f a e = omega arith

-- ---- what is live

-- an entry in place of another
replaced : (live : Live) (b : ℕ) (e : Entry) → table.insert live b e ≡ table.insert (table.remove live b) b e
replaced live b e = table.same_map nat_cmp_total table.nat_cmp-IsAntisymmetric _ _ (λ q. by q (cases_eq q b))
  where
    by : (q : ℕ) → (q ≡ b) ⊎ (q ≡ b → ⊥) → table.get (table.insert live b e) q ≡ table.get (table.insert (table.remove live b) b e) q
    by q (inl is) = subst (λ n. table.get (table.insert live b e) n ≡ table.get (table.insert (table.remove live b) b e) n) (sym is) (at_key live b e ∙ sym (at_key (table.remove live b) b e))
    by q (inr ne) = apart live b e q ne ∙ sym (left live b q ne) ∙ sym (apart (table.remove live b) b e q ne)

away_with : (live : Live) (b : ℕ) (e : Entry) → away_count (table.insert live b e) ≡ one (is_away e) + away_count (table.remove live b)
away_with live b e = ap away_count (replaced live b e) ∙ passing_with is_away (table.remove live b) b e (gone live b)

pub rest_gives : (k : Kept) (b : ℕ) (e : Entry) → table.get k.live b ≡ Some e → is_home e.way ≡ false → frames_taken k ≡ frames_taken (record k { live = table.insert k.live b (record e { way = Home }) }) + 1
rest_gives k b e at away =
    sum _ _ _ _ _ (passing_without is_away k.live b e at ∙ ap (λ h. one (not h) + away_count (table.remove k.live b)) away) (away_with k.live b (record e { way = Home }))
  where
    sum : (n f a r c : ℕ) → a ≡ 1 + r → c ≡ 0 + r → n + f + a ≡ n + f + c + 1
    sum n f a r c p q = omega arith

-- an entry in place of one that is as much away
pub same_away : (k : Kept) (b : ℕ) (e d : Entry) → table.get k.live b ≡ Some e → is_home d.way ≡ is_home e.way → frames_taken (record k { live = table.insert k.live b d }) ≡ frames_taken k
same_away k b e d at same =
    sum _ _ _ _ _ _ (passing_without is_away k.live b e at) (away_with k.live b d) (ap (λ h. one (not h)) same)
  where
    sum : (f a r c x y : ℕ) → a ≡ x + r → c ≡ y + r → y ≡ x → f + c ≡ f + a
    sum f a r c x y p q s = omega arith

-- a block of the flush that is live now, and wasn't kept as a live one
none_at : (live : Live) (b : ℕ) → ((e : Entry) → table.get live b ≡ Some e → is_home e.way ≡ true) → away_count live ≡ away_count (table.remove live b)
none_at live b rests = by (table.get live b) refl
  where
    none_less : (n : ℕ) → 0 + n ≡ n
    none_less n = omega arith

    by : (o : Option Entry) → table.get live b ≡ o → away_count live ≡ away_count (table.remove live b)
    by None at = ap away_count (sym (remove_absent live b at))
    by (Some e) at = passing_without is_away live b e at ∙ ap (λ h. one (not h) + away_count (table.remove live b)) (rests e at) ∙ none_less _

pub land_moves : (k : Kept) (b first : ℕ) (v : Version) → table.get k.flushed b ≡ Some v → ((e : Entry) → table.get k.live b ≡ Some e → is_home e.way ≡ true)
    → frames_taken (record k { flushed = table.remove k.flushed b; live = table.insert k.live b (landed v first) }) ≡ frames_taken k
land_moves k b first v at rests = sum _ _ _ _ _ _ (len_without k.flushed b v at) (away_with k.live b (landed v first)) (none_at k.live b rests)
  where
    sum : (n f g a c r : ℕ) → f ≡ g + 1 → c ≡ 1 + r → a ≡ r → n + g + c ≡ n + f + a
    sum n f g a c r p q s = omega arith

-- ---- those that are left

module _ (p : Entry → Bool) where
  abbrev pub only : Live → Live
  only m = table.from_sorted (filter (λ (e : ℕ × Entry). p e.1) (table.entries m))

  pub get-only : (m : Live) (q : ℕ) → table.get (only m) q ≡ left_by p (table.get m q)
  get-only m q =
      table.get-from_sorted nat_cmp (filter (λ (e : ℕ × Entry). p e.1) (table.entries m)) q (staying_rise (λ (k : ℕ) (e : Entry). p e) (table.entries m) (table.entries_sorted m))
      ∙ find_staying (λ (k : ℕ) (e : Entry). p e) q (table.entries m) (table.entries_sorted m) ∙ ap (left_by p) (sym (table.get-entries m q))

  counted-chosen : (b : Bool) (e : ℕ × Entry) (es : List (ℕ × Entry)) → one b + length es ≡ length (cond b (e ∷ es) es)
  counted-chosen true e es = omega arith
  counted-chosen false e es = omega arith

  counted : (es : List (ℕ × Entry)) → count_by (λ (e : ℕ × Entry). p e.1) es ≡ length (filter (λ (e : ℕ × Entry). p e.1) es)
  counted [] = refl
  counted (e ∷ es) =
      sum_by-cons (λ (f : ℕ × Entry). one (p f.1)) e es ∙ ap (λ n. one (p e.1) + n) (counted es) ∙ counted-chosen (p e.1) e (filter (λ (f : ℕ × Entry). p f.1) es)

  pub count-only : (m : Live) → count_by (λ (e : ℕ × Entry). p e.1) (table.entries m) ≡ table.len (only m)
  count-only m =
      counted (table.entries m)
      ∙ ap length (sym (table.entries-from_sorted nat_cmp (filter (λ (e : ℕ × Entry). p e.1) (table.entries m)) (staying_rise (λ (k : ℕ) (e : Entry). p e) (table.entries m) (table.entries_sorted m))))
      ∙ sym (table.len-entries (only m))

-- what goes that is home takes no frame with it
pub keep_takes : (live live' : Live) (stays : ℕ → Entry → Bool) → ((b : ℕ) → table.get live' b ≡ left_by (stays b) (table.get live b))
    → ((b : ℕ) (e : Entry) → table.get live b ≡ Some e → stays b e ≡ false → is_home e.way ≡ true) → away_count live' ≡ away_count live
keep_takes live live' stays are home =
    count-only is_away live' ∙ ap table.len (table.same_map nat_cmp_total table.nat_cmp-IsAntisymmetric (only is_away live') (only is_away live) same) ∙ sym (count-only is_away live)
  where
    none_goes : (b : ℕ) (e : Entry) (s h : Bool) → stays b e ≡ s → is_home e.way ≡ h → table.get live b ≡ Some e → left_by is_away (cond s (Some e) None) ≡ cond (not h) (Some e) None
    none_goes b e true h s is at = ap (λ x. cond (not x) (Some e) None) is
    none_goes b e false true s is at = refl
    none_goes b e false false s is at = absurd (true≢false (sym (home b e at s) ∙ is))

    by : (b : ℕ) (o : Option Entry) → table.get live b ≡ o → left_by is_away (left_by (stays b) o) ≡ left_by is_away o
    by b None at = refl
    by b (Some e) at = none_goes b e (stays b e) (is_home e.way) refl refl at

    same : (b : ℕ) → table.get (only is_away live') b ≡ table.get (only is_away live) b
    same b = get-only is_away live' b ∙ ap (left_by is_away) (are b) ∙ by b (table.get live b) refl ∙ sym (get-only is_away live b)

-- of no entries none is away
pub none_away : (live : Live) → table.len live ≡ 0 → away_count live ≡ 0
none_away live none = least _ _ _ (count_by-le-length (λ (e : ℕ × Entry). not (is_home e.1.way)) (table.entries live)) (table.len-entries live) none
  where
    least : (a l n : ℕ) → a ≤ l → n ≡ l → n ≡ 0 → a ≡ 0
    least a l n p q r = omega arith
