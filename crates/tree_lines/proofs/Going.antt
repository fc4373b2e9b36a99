-- Open directories, and what is left of them.
use Rattle.std.proofs.Common.{◌≡◌, ℕ, ◌+◌, ◌*◌, ◌<◌, ◌≤◌, List, [], ◌∷◌, ◌++◌, length, take, drop, refl, sym, ap, ◌∙◌, subst, arith, append_assoc, append-nil}
use Rattle.std.proofs.lemmas.List.{length-append, length-take-le, take-append-drop, take_all}
use Rattle.file_tree.specs.Apply.{entries_of}
use Rattle.file_tree.specs.Tree.{Tree, none, entry, node_count, entry_count, IsDir}
use Rattle.show_text.specs.Show.{dir_line, tree_lines, entry_lines}
use Rattle.tree_lines.specs.Left.{names_left, lines_left, work_left}
use Rattle.tree_lines.specs.declared.Open.{Open}
use Rattle.tree_lines.proofs.Below.{dir_lines, dir_more}

-- the lines of the last directory come first
pub last_first : (path : List (List ℕ)) (os : List Open) (o : Open) (names : List (List ℕ)) → length os ≤ length names
    → lines_left path (os ++ o ∷ []) names ≡ entry_lines (path ++ take (length os) names) (names_left o) ++ lines_left path os names
last_first path [] o names few = ap (λ p. entry_lines p (names_left o)) (sym (append-nil path)) ∙ sym (append-nil (entry_lines (path ++ []) (names_left o)))
last_first path (p ∷ ps) o [] few = absurd (omega arith)
last_first path (p ∷ ps) o (n ∷ ns) few =
    ap (λ x. x ++ entry_lines path (names_left p)) (last_first (path ++ n ∷ []) ps o ns (omega arith))
    ∙ append_assoc (entry_lines ((path ++ n ∷ []) ++ take (length ps) ns) (names_left o)) (lines_left (path ++ n ∷ []) ps ns) (entry_lines path (names_left p))
    ∙ ap (λ p'. entry_lines p' (names_left o) ++ (lines_left (path ++ n ∷ []) ps ns ++ entry_lines path (names_left p))) (append_assoc path (n ∷ []) (take (length ps) ns))

-- further names don't matter
pub more_names : (path : List (List ℕ)) (os : List Open) (names more : List (List ℕ)) → length os ≤ length names + 1 → lines_left path os (names ++ more) ≡ lines_left path os names
more_names path [] names more few = refl
more_names path (o ∷ []) [] more few = refl
more_names path (o ∷ p ∷ os) [] more few = absurd (omega arith)
more_names path (o ∷ os) (n ∷ ns) more few = ap (λ x. x ++ entry_lines path (names_left o)) (more_names (path ++ n ∷ []) os ns more (omega arith))

-- nor do those that are cut off
pub cut_names : (path : List (List ℕ)) (os : List Open) (names : List (List ℕ)) → length os ≤ length names → lines_left path os (take (length os) names) ≡ lines_left path os names
cut_names path os names few =
    let count : length (take (length os) names) ≡ length os = length-take-le (length os) names few in
    sym (more_names path os (take (length os) names) (drop (length os) names) (omega arith)) ∙ ap (lines_left path os) (take-append-drop (length os) names)

pub work_more : (os : List Open) (o : Open) → work_left (os ++ o ∷ []) ≡ work_left os + (1 + 2 * entry_count (names_left o))
work_more [] o = omega arith
work_more (p ∷ os) o = omega (arith, work_more os o)

-- ---- a directory is opened

module _ (text text' : List ℕ) (names : List (List ℕ)) (os os' : List Open) (t : Tree) (o : Open) (is : IsDir t) (all : names_left o ≡ entries_of t) (pushed : os' ≡ os ++ o ∷ []) where
  pub opened : length names ≡ length os → text' ≡ text ++ dir_line names → text' ++ lines_left [] os' names ≡ text ++ (tree_lines names t ++ lines_left [] os names)
  opened count line =
      let few : length os ≤ length names = omega (arith, count) in
      let whole : take (length os) names ≡ names = take_all (length os) names (omega (arith, count)) in
      let left : lines_left [] os' names ≡ entry_lines names (entries_of t) ++ lines_left [] os names =
      ap (λ s. lines_left [] s names) pushed ∙ last_first [] os o names few ∙ (λ i. entry_lines (whole i) (all i) ++ lines_left [] os names) in
      (λ i. line i ++ left i)
      ∙ append_assoc text (dir_line names) (entry_lines names (entries_of t) ++ lines_left [] os names)
      ∙ ap (λ x. text ++ x) (sym (append_assoc (dir_line names) (entry_lines names (entries_of t)) (lines_left [] os names)))
      ∙ ap (λ x. text ++ (x ++ lines_left [] os names)) (sym (dir_lines t names is))

  pub opened_work : work_left os' < work_left os + 2 * node_count t
  opened_work =
      let work : work_left os' ≡ work_left os + (1 + 2 * entry_count (entries_of t)) = ap work_left pushed ∙ work_more os o ∙ ap (λ es. work_left os + (1 + 2 * entry_count es)) all in
      omega (arith, work, dir_more t is)

-- ---- the next name of a directory, which is taken from those that are open

module _ (names names' : List (List ℕ)) (os : List Open) (d : Open) (few : length os ≤ length names) (cut : names' ≡ take (length os) names) where
  count' : length names' ≡ length os
  count' = ap length cut ∙ length-take-le (length os) names few

  rest : lines_left [] os names' ≡ lines_left [] os names
  rest = ap (lines_left [] os) cut ∙ cut_names [] os names few

  -- where none is left
  pub closed : (text : List ℕ) → names_left d ≡ none → text ++ lines_left [] os names' ≡ text ++ lines_left [] (os ++ d ∷ []) names
  closed text past =
      let last : lines_left [] (os ++ d ∷ []) names ≡ lines_left [] os names = last_first [] os d names few ∙ ap (λ es. entry_lines (take (length os) names) es ++ lines_left [] os names) past in
      ap (λ x. text ++ x) (rest ∙ sym last)

  module _ (n : List ℕ) (t : Tree) (d' : Open) (os' : List Open) (names'' : List (List ℕ)) (there : names_left d ≡ entry n t (names_left d')) (back : os' ≡ os ++ d' ∷ []) (named : names'' ≡ names' ++ n ∷ []) where
    left : lines_left [] os' names'' ≡ entry_lines names' (names_left d') ++ lines_left [] os names
    left =
        let low : length (os ++ d' ∷ []) ≤ length names' + 1 = omega (arith, length-append os (d' ∷ []), count') in
        let whole : take (length os) names' ≡ names' = take_all (length os) names' (omega (arith, count')) in
        (λ i. lines_left [] (back i) (named i)) ∙ more_names [] (os ++ d' ∷ []) names' (n ∷ []) low
        ∙ last_first [] os d' names' (omega (arith, count')) ∙ (λ i. entry_lines (whole i) (names_left d') ++ rest i)

    pub went_on : (text text' : List ℕ) (os'' : List Open) (all : List (List ℕ)) → all ≡ names''
        → text' ++ lines_left [] os'' all ≡ text ++ (tree_lines all t ++ lines_left [] os' all) → text' ++ lines_left [] os'' names'' ≡ text ++ lines_left [] (os ++ d ∷ []) names
    went_on text text' os'' all same lines =
        let last : lines_left [] (os ++ d ∷ []) names ≡ entry_lines names' (entry n t (names_left d')) ++ lines_left [] os names =
        last_first [] os d names few ∙ (λ i. entry_lines (sym cut i) (there i) ++ lines_left [] os names) in
        subst (λ ns. text' ++ lines_left [] os'' ns ≡ text ++ (tree_lines ns t ++ lines_left [] os' ns)) same lines ∙ (λ i. text ++ (tree_lines (named i) t ++ left i))
        ∙ ap (λ x. text ++ x) (sym (append_assoc (tree_lines (names' ++ n ∷ []) t) (entry_lines names' (names_left d')) (lines_left [] os names)))
        ∙ ap (λ x. text ++ x) (sym last)

    pub went_down : (os'' : List Open) → work_left os'' < work_left os' + 2 * node_count t → work_left os'' < work_left (os ++ d ∷ [])
    went_down os'' less =
        let before : work_left (os ++ d ∷ []) ≡ work_left os + (1 + 2 * (node_count t + entry_count (names_left d'))) = work_more os d ∙ ap (λ es. work_left os + (1 + 2 * entry_count es)) there in
        let after : work_left os' ≡ work_left os + (1 + 2 * entry_count (names_left d')) = ap work_left back ∙ work_more os d' in
        omega (arith, before, after, less)
