-- Entries that are put over others, block by block.
use Rattle.std.proofs.Common.{◌≡◌, ℕ, Bool, true, false, cond, List, [], ◌∷◌, ◌++◌, Option, None, Some, refl, sym, ap, subst, ◌∙◌, inl, inr, ◌<◌, Ordering, Less, Equal, Greater, arith}
use Rattle.std.specs.Prelude.{◌==◌, if◌then◌else◌, map, filter, find, length, MatchOption, Result, Ok, Err}
use Rattle.std.specs.List.{AllByRecursion, flat_map, last_or}
use Rattle.std.specs.Option.{option_map}
use Rattle.std.specs.Ordering.{nat_cmp, MatchOrdering, match_ordering}
use Rattle.std.proofs.lemmas.Cmp.{ranked}
use Rattle.std.proofs.lemmas.Bool.Decides.{nat_tests}
use Rattle.std.specs.BTreeMap.{BTreeMap, insert_entry, is_at}
use Rattle.std.specs.Map.{keys_of, lookup}
use Rattle.std.specs.Cmp.{unsigned_tied}
use Rattle.std.proofs.lemmas.Bool.{cases_Bool, cond-true, cond-false, eqb-true}
use Rattle.std.proofs.lemmas.List.{append_assoc, append-nil}
use Rattle.drafts.specs.declared.change.Written.{Written}
use Rattle.log_layout.specs.Chunks.{Logged}
use Rattle.log_layout.specs.Live.{is_cancelled, live_entry}
use Rattle.log_layout.specs.declared.log_header.LogHeader.{LogHeader}
use Rattle.journal_scan.specs.declared.fault.ScanFault.{ScanFault}
use Rattle.journal_scan.specs.declared.fault.ScanFault.TheVariants.{NoHeader}
use Rattle.journal_scan.specs.Said.{logged, says_at}
use Rattle.journal_scan.specs.declared.scanning.Sequenced.{Sequenced as Held}
use Rattle.revoke_table.specs.Revokes.{Greatest}
use Rattle.revoke_table.specs.Revokes.{is_cancelled as is_cancelled_by}
use Rattle.peer_replay.specs.Plans.{AreByBlock, counted, entry_at}

abbrev pub ByBlock : ℕ × Written → Type 0
ByBlock e = e.1.block ≡ e.0

-- an entry under its block's number keeps all so
placed : (e : ℕ × Written) (es more : List (ℕ × Written)) (w : Written) (o : Ordering) → MatchOrdering o (w.block < e.0) (w.block ≡ e.0) (e.0 < w.block) → AllByRecursion ByBlock (e ∷ es) → AllByRecursion ByBlock more
    → AllByRecursion ByBlock (match_ordering o ((w.block, w) ∷ e ∷ es) ((e.0, w) ∷ es) (e ∷ more))
placed e es more w Less tells all rest = (refl, all)
placed e es more w Equal tells all rest = (tells, all.1)
placed e es more w Greater tells all rest = (all.0, rest)

pub by_block_more : (es : List (ℕ × Written)) (w : Written) → AllByRecursion ByBlock es → AllByRecursion ByBlock (insert_entry nat_cmp es w.block w)
by_block_more [] w all = (refl, tt)
by_block_more (e ∷ es) w all =
    placed e es (insert_entry nat_cmp es w.block w) w (nat_cmp w.block e.0) (ranked w.block e.0 (nat_cmp w.block e.0) refl) all (by_block_more es w all.1)

-- ---- transactions

pub last_append : {X : Type 0} (o : Option X) (xs ys : List X) → last_or o (xs ++ ys) ≡ last_or (last_or o xs) ys
last_append o [] ys = refl
last_append o (x ∷ xs) ys = last_append (Some x) xs ys

-- what counts of a block in these transactions, which are some of all
abbrev pub left_counted : List Held → ℕ → List Held → List Logged
left_counted all b ts = flat_map (λ (t : Held). if is_cancelled (map says_at all) b t.sequence then [] else filter (λ (e : Logged). e.block == b) (map logged t.transaction.blocks.items)) ts

left_is : (all ts : List Held) (b : ℕ) → left_counted all b ts
    ≡ flat_map (λ t. if is_cancelled (map says_at all) b t.sequence then [] else filter (λ (e : Logged). e.block == b) t.transaction.blocks) (map says_at ts)
left_is all [] b = refl
left_is all (t ∷ ts) b =
    ap (λ l. (if is_cancelled (map says_at all) b t.sequence then [] else filter (λ (e : Logged). e.block == b) (map logged t.transaction.blocks.items)) ++ l) (left_is all ts b)

both_none : (c : Bool) → (if c then [] else []) ≡ (let n : List Logged = [] in n)
both_none true = refl
both_none false = refl

pub none_counted : (table : Greatest) (s b : ℕ) → counted table s b [] ≡ []
none_counted table s b = both_none (is_cancelled_by table b s)

-- the entries that are kept, and those of the transactions that are left over them, are what is live
pub record IsOver (all : List Held) (home : BTreeMap ℕ Written) (left : List Held) : Type 0 where
  pub by : AreByBlock home
  pub same : (b : ℕ) → last_or (entry_at home b) (left_counted all b left) ≡ live_entry (map says_at all) b

pub over_start : (all : List Held) (home : BTreeMap ℕ Written) → home.entries ≡ [] → IsOver all home all
over_start all home none = record {
  by = subst (AllByRecursion ByBlock) (sym none) tt;
  same = λ b. (λ i. last_or (option_map logged (lookup (is_at (nat_cmp b)) (none i))) (left_is all all b i));
}

pub over_more : (all rest left : List Held) (t : Held) (home new : BTreeMap ℕ Written) (table : Greatest) → IsOver all home left → left ≡ t ∷ rest → AreByBlock new
    → ((b : ℕ) → entry_at new b ≡ last_or (entry_at home b) (counted table t.sequence b t.transaction.blocks.items))
    → ((b s : ℕ) → is_cancelled_by table b s ≡ is_cancelled (map says_at all) b s) → IsOver all new rest
over_more all rest left t home new table over first by put tells = record {
  by = by;
  same = λ b.
      ap (λ o. last_or o (left_counted all b rest)) (put b ∙ (λ i. last_or (entry_at home b) (if tells b t.sequence i then [] else filter (λ (e : Logged). e.block == b) (map logged t.transaction.blocks.items))))
      ∙ sym (last_append (entry_at home b) (if is_cancelled (map says_at all) b t.sequence then [] else filter (λ (e : Logged). e.block == b) (map logged t.transaction.blocks.items)) (left_counted all b rest))
      ∙ ap (λ l. last_or (entry_at home b) (left_counted all b l)) (sym first) ∙ over.same b;
}

pub over_end : (all left : List Held) (home : BTreeMap ℕ Written) → IsOver all home left → left ≡ [] → (b : ℕ) → entry_at home b ≡ live_entry (map says_at all) b
over_end all left home over none b = ap (λ l. last_or (entry_at home b) (left_counted all b l)) (sym none) ∙ over.same b

-- the entries of one transaction, on the way
pub record IsLeft (table : Greatest) (s : ℕ) (start home : BTreeMap ℕ Written) (all left : List Written) : Type 0 where
  pub by : AreByBlock home
  pub same : (b : ℕ) → last_or (entry_at home b) (counted table s b left) ≡ last_or (entry_at start b) (counted table s b all)

-- one entry of a transaction more
pub over_one : (table : Greatest) (s b : ℕ) (w : Written) (ws : List Written) (old new : Option Logged) → is_cancelled_by table w.block s ≡ false → new ≡ (if w.block == b then Some (logged w) else old)
    → last_or new (counted table s b ws) ≡ last_or old (counted table s b (w ∷ ws))
over_one table s b w ws old new counts is = elim (cases_Bool (w.block == b)) [
  | inl same ↦
      let at : w.block ≡ b = eqb-true w.block b same in
      let live : is_cancelled_by table b s ≡ false = ap (λ n. is_cancelled_by table n s) (sym at) ∙ counts in
      let rest : List Logged = filter (λ (e : Logged). e.block == b) (map logged ws) in
      let one : new ≡ Some (logged w) = is ∙ cond-true _ _ _ same in
      let here : filter (λ (e : Logged). e.block == b) (map logged (w ∷ ws)) ≡ logged w ∷ rest = cond-true _ _ _ same in
      (λ i. last_or (one i) (if live i then [] else rest)) ∙ sym (λ i. last_or old (if live i then [] else here i))
  | inr other ↦
      let stays : new ≡ old = is ∙ cond-false _ _ _ other in
      let skip : filter (λ (e : Logged). e.block == b) (map logged (w ∷ ws)) ≡ filter (λ (e : Logged). e.block == b) (map logged ws) = cond-false _ _ _ other in
      (λ i. last_or (stays i) (if is_cancelled_by table b s then [] else sym skip i))
]

-- one that doesn't count
pub over_none : (table : Greatest) (s b : ℕ) (w : Written) (ws : List Written) (old : Option Logged) → is_cancelled_by table w.block s ≡ true → last_or old (counted table s b ws) ≡ last_or old (counted table s b (w ∷ ws))
over_none table s b w ws old cancelled = elim (cases_Bool (w.block == b)) [
  | inl same ↦
      let at : w.block ≡ b = eqb-true w.block b same in
      let gone : is_cancelled_by table b s ≡ true = ap (λ n. is_cancelled_by table n s) (sym at) ∙ cancelled in
      (λ i. last_or old (if gone i then [] else filter (λ (e : Logged). e.block == b) (map logged ws))) ∙ sym (λ i. last_or old (if gone i then [] else filter (λ (e : Logged). e.block == b) (map logged (w ∷ ws))))
  | inr other ↦
      let skip : filter (λ (e : Logged). e.block == b) (map logged (w ∷ ws)) ≡ filter (λ (e : Logged). e.block == b) (map logged ws) = cond-false _ _ _ other in
      (λ i. last_or old (if is_cancelled_by table b s then [] else sym skip i))
]

-- ---- the entries as a list

turned : (x y : ℕ) → (x == y) ≡ (y == x)
turned x y = grind (arith, nat_tests)

-- what is found by its block is what is kept of it
pub found_is_kept : (es : List (ℕ × Written)) (b : ℕ) → AllByRecursion ByBlock es → find (λ (w : Written). w.block == b) (map (λ (e : ℕ × Written). e.1) es) ≡ lookup (is_at (nat_cmp b)) es
found_is_kept [] b all = refl
found_is_kept (e ∷ es) b all =
    let test : (e.1.block == b) ≡ is_at (nat_cmp b) e.0 = ap (λ n. n == b) all.0 ∙ turned e.0 b ∙ sym (unsigned_tied b e.0) in
    (λ i. cond (test i) (Some e.1) (found_is_kept es b all.1 i))

pub blocks_are_keys : (es : List (ℕ × Written)) → AllByRecursion ByBlock es → map (λ (w : Written). w.block) (map (λ (e : ℕ × Written). e.1) es) ≡ keys_of es
blocks_are_keys [] all = refl
blocks_are_keys (e ∷ es) all = (λ i. all.0 i ∷ blocks_are_keys es all.1 i)

-- the blocks that left the map, in order, and those that are in it
pub record IsPart (start left : List (ℕ × Written)) (blocks : List Written) : Type 0 where
  pub same : blocks ++ map (λ (e : ℕ × Written). e.1) left ≡ map (λ (e : ℕ × Written). e.1) start

pub part_more : (start left rest : List (ℕ × Written)) (e : ℕ × Written) (blocks new : List Written) → IsPart start left blocks → left ≡ e ∷ rest → new ≡ blocks ++ e.1 ∷ [] → IsPart start rest new
part_more start left rest e blocks new part first one = record {
  same = ap (λ l. l ++ map (λ (f : ℕ × Written). f.1) rest) one ∙ append_assoc blocks (e.1 ∷ []) (map (λ (f : ℕ × Written). f.1) rest)
      ∙ ap (λ l. blocks ++ map (λ (f : ℕ × Written). f.1) l) (sym first) ∙ part.same;
}

pub part_end : (start left : List (ℕ × Written)) (blocks : List Written) → IsPart start left blocks → left ≡ [] → blocks ≡ map (λ (e : ℕ × Written). e.1) start
part_end start left blocks part none = sym (append-nil blocks) ∙ ap (λ l. blocks ++ map (λ (f : ℕ × Written). f.1) l) (sym none) ∙ part.same

pub no_entries : (es : List (ℕ × Written)) → (0 < length es → false ≡ true) → es ≡ []
no_entries [] none = refl
no_entries (e ∷ es) none = absurd (let e : false ≡ true = none (omega arith) in cc)

-- what a search for the head answers
pub head_found : (o : Option LogHeader) (head : LogHeader) → MatchOption o (◌≡◌ {A = Result LogHeader ScanFault} (Ok head) (Err NoHeader)) (λ h. ◌≡◌ {A = Result LogHeader ScanFault} (Ok head) (Ok h)) → o ≡ Some head
head_found None head m = absurd (let no : ◌≡◌ {A = Result LogHeader ScanFault} (Ok head) (Err NoHeader) = m in cc)
head_found (Some h) head m = let same : ◌≡◌ {A = Result LogHeader ScanFault} (Ok head) (Ok h) = m in cc
