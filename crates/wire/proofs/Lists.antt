-- Lists by index, and lists one after another. Assumes nothing.
use mathlib.Core.Path.{◌≡◌, refl, sym, ap, ap₂, ◌∙◌}
use mathlib.Core.List.{List, [], ◌∷◌, ◌++◌, append_assoc, append-nil}
use Prim.Native.Nat.{ℕ, zero, suc, ◌+◌, ◌*◌, ◌<◌, ◌≤◌}
use native.Mathlib.Omega.{arith}
use lib.Arith.{digits_lt}
use lib.ListN.{drop_of_length-le, replicate, replicate-append-replicate, length, get_or, take, drop, set, length-append, length-drop, take-append-drop, get_or-append}
use lib.Seq.{take-add, sets, sets-eq, length-take-le, take_at, drop_at, drop-cons, drop-drop, take-suc, set_at, get_or_at, get_or-append-add}
use native.Mathlib.Nat.{zero-add, suc-add, add-zero, add-suc, zero-mul, suc-mul}
use native.Mathlib.Numerals.{add-one}
use Rattle.wire.proofs.Cases.{by_order}
use Rattle.wire.specs.Lists.{tab, over, over_at, tabs}

module _ {A : Type 0} where
  pub length-tab : (n : ℕ) (f : ℕ → A) → length (tab n f) ≡ n
  length-tab zero f = refl
  length-tab (suc n) f = rw (length-append (tab n f) (f n ∷ []), length-tab n f) (omega arith)

  pub get_or-tab : (n : ℕ) (f : ℕ → A) (i : ℕ) (d : A) → i < n → get_or (tab n f) i d ≡ f i
  get_or-tab zero f i d h = absurd (omega arith)
  get_or-tab (suc n) f i d h =
      by_order i n
      (λ below. get_or-append (tab n f) (f n ∷ []) d i (rw (length-tab n f) below) ∙ get_or-tab n f i d below)
      (λ above. let last : i ≡ n = omega arith in rw last (get_or_at (tab n f) (f n) [] d n (length-tab n f)))

  -- one value more
  pub over-more : (n : ℕ) (f : ℕ → A) (xs : List A) → n < length xs → set (over n f xs) n (f n) ≡ over (n + 1) f xs
  over-more n f xs h =
      rw (add-one n, drop-cons xs n (f n), append_assoc (tab n f) (f n ∷ []) (drop (suc n) xs)) (set_at (tab n f) (get_or xs n (f n)) (drop (suc n) xs) (f n) n (length-tab n f))

  pub length_over : (n : ℕ) (f : ℕ → A) (xs : List A) → n ≤ length xs → length (over n f xs) ≡ length xs
  length_over n f xs h = rw (length-append (tab n f) (drop n xs), length-tab n f, length-drop n xs) (omega arith)

  tab-add : (m n : ℕ) (f : ℕ → A) → tab (m + n) f ≡ tab m f ++ tab n (λ j. f (m + j))
  tab-add m zero f = rw (add-zero m) (sym (append-nil (tab m f)))
  tab-add m (suc n) f = rw (add-suc m n, tab-add m n f) (append_assoc (tab m f) (tab n (λ j. f (m + j))) (f (m + n) ∷ []))

  set_past : (p ys : List A) (i : ℕ) (a : A) → set (p ++ ys) (length p + i) a ≡ p ++ set ys i a
  set_past [] ys i a = rw (zero-add i)
  set_past (x ∷ p) ys i a = rw (suc-add (length p) i) (ap (λ l. x ∷ l) (set_past p ys i a))

  module _ (at n : ℕ) (f : ℕ → A) (xs : List A) where
    pub length-over_at : at + n ≤ length xs → length (over_at at n f xs) ≡ length xs
    length-over_at h =
        let rest : n ≤ length (drop at xs) = rw (length-drop at xs) (omega arith) in
        rw (length-append (take at xs) (over n f (drop at xs)), length_over n f (drop at xs) rest, length-take-le at xs (omega arith), length-drop at xs)
        (omega arith)

    pub over_at-more : at + n < length xs → set (over_at at n f xs) (at + n) (f n) ≡ over_at at (n + 1) f xs
    over_at-more h =
        let rest : n < length (drop at xs) = rw (length-drop at xs) (omega arith) in
        let before : length (take at xs) ≡ at = length-take-le at xs (omega arith) in
        ap (λ k. set (over_at at n f xs) (k + n) (f n)) (sym before) ∙ set_past (take at xs) (over n f (drop at xs)) n (f n)
        ∙ ap (λ l. take at xs ++ l) (over-more n f (drop at xs) rest)

    -- values written after those that stand before them
    pub over-then : at + n ≤ length xs → over_at at n (λ j. f (at + j)) (over at f xs) ≡ over (at + n) f xs
    over-then h =
        rw (take_at (tab at f) (drop at xs) at (length-tab at f), drop_at (tab at f) (drop at xs) at (length-tab at f), drop-drop n at xs)
        (sym (append_assoc (tab at f) (tab n (λ j. f (at + j))) (drop (at + n) xs)) ∙ ap (λ l. l ++ drop (at + n) xs) (sym (tab-add at n f)))

  -- equal at each index below n
  pub tab-same : (n : ℕ) (f g : ℕ → A) → ((i : ℕ) → i < n → f i ≡ g i) → tab n f ≡ tab n g
  tab-same zero f g same = refl
  tab-same (suc n) f g same =
      ap₂ (λ l a. l ++ (a ∷ [])) (tab-same n f g (λ i h. same i (omega arith))) (same n (omega arith))

  pub over_at-same : (at n : ℕ) (f g : ℕ → A) (xs : List A) → ((i : ℕ) → i < n → f i ≡ g i) → over_at at n f xs ≡ over_at at n g xs
  over_at-same at n f g xs same = ap (λ l. take at xs ++ (l ++ drop n (drop at xs))) (tab-same n f g same)

  -- the first n elements of a list, by index
  pub tab-get_or : (n : ℕ) (xs : List A) (d : A) → n ≤ length xs → tab n (λ i. get_or xs i d) ≡ take n xs
  tab-get_or zero xs d h = refl
  tab-get_or (suc n) xs d h = rw (take-suc xs n d h, tab-get_or n xs d (omega arith))

  -- values by index are their parts of k, one after another
  pub tab-parts : (n k : ℕ) (f : ℕ → A) → tab (n * k) f ≡ tabs n (λ t. tab k (λ j. f (t * k + j)))
  tab-parts zero k f = rw (zero-mul k)
  tab-parts (suc n) k f = rw (suc-mul n k, tab-add (n * k) k f, tab-parts n k f)

  pub tabs-same : (n : ℕ) (f g : ℕ → List A) → ((i : ℕ) → i < n → f i ≡ g i) → tabs n f ≡ tabs n g
  tabs-same zero f g same = refl
  tabs-same (suc n) f g same = ap₂ ◌++◌ (tabs-same n f g (λ i h. same i (omega arith))) (same n (omega arith))

  -- lists of one length k, one after another
  module _ (k : ℕ) (f : ℕ → List A) where
    pub length-tabs : (n : ℕ) → ((t : ℕ) → t < n → length (f t) ≡ k) → length (tabs n f) ≡ n * k
    length-tabs zero long = sym (zero-mul k)
    length-tabs (suc n) long =
        rw (length-append (tabs n f) (f n), length-tabs n (λ t h. long t (omega arith)), long n (omega arith)) (sym (suc-mul n k))

    pub get_or-tabs : (n t j : ℕ) (d : A) → ((t : ℕ) → t < n → length (f t) ≡ k) → t < n → j < k → get_or (tabs n f) (t * k + j) d ≡ get_or (f t) j d
    get_or-tabs zero t j d long in_List in-part = absurd (omega arith)
    get_or-tabs (suc n) t j d long in_List in-part =
        let before = length-tabs n (λ i h. long i (omega arith)) in
        by_order t n
        (λ below.
        let inside : t * k + j < n * k = digits_lt below in-part in
        get_or-append (tabs n f) (f n) d (t * k + j) (rw before inside) ∙ get_or-tabs n t j d (λ i h. long i (omega arith)) below in-part)
        (λ above. let last : t ≡ n = omega arith in rw (last, ← before) (get_or-append-add (tabs n f) (f n) j d))

  -- a list is its parts of k, and the rest
  pub parts : (n k : ℕ) (xs : List A) → tabs n (λ t. take k (drop (t * k) xs)) ++ drop (n * k) xs ≡ xs
  parts zero k xs = rw (zero-mul k)
  parts (suc n) k xs =
      rw (append_assoc (tabs n (λ t. take k (drop (t * k) xs))) (take k (drop (n * k) xs)) (drop (suc n * k) xs), suc-mul n k, ← drop-drop k (n * k) xs, take-append-drop k (drop (n * k) xs))
      (parts n k xs)

  -- stores one after another, and all at once
  pub sets-append : (out : List A) (at : ℕ) (a b : List A) → sets (sets out at a) (at + length a) b ≡ sets out at (a ++ b)
  sets-append out at [] b = ap (λ n. sets out n b) (add-zero at)
  sets-append out at (x ∷ a) b =
      let moved : at + suc (length a) ≡ suc at + length a = omega arith in
      rw moved (sets-append (set out at x) (suc at) a b)

  -- values written over a part are stores of their list
  pub over_at-sets : (at n : ℕ) (f : ℕ → A) (xs : List A) → at + n ≤ length xs → over_at at n f xs ≡ sets xs at (tab n f)
  over_at-sets at n f xs room =
      let fits : at + length (tab n f) ≤ length xs = rw (length-tab n f) room in
      sym (sets-eq (tab n f) xs at fits ∙ rw (length-tab n f, append_assoc (take at xs) (tab n f) (drop (at + n) xs), drop-drop n at xs))

  pub tab-constant : (n : ℕ) (a : A) → tab n (λ i. a) ≡ replicate n a
  tab-constant zero a = refl
  tab-constant (suc n) a =
      let last : n + 1 ≡ suc n = add-one n in
      rw (tab-constant n a) (replicate-append-replicate n 1 a ∙ ap (λ m. replicate m a) last)

  -- a whole list is stored over
  pub sets-all : (xs vs : List A) → length vs ≡ length xs → sets xs 0 vs ≡ vs
  sets-all xs vs long =
      let end : length xs ≤ 0 + length vs = omega arith in
      sets-eq vs xs 0 (omega arith) ∙ rw (drop_of_length-le xs {i = 0 + length vs} end) (append-nil vs)

  -- the first n parts of k are the first n * k elements
  pub first_parts : (n k : ℕ) (xs : List A) → n * k ≤ length xs → tabs n (λ t. take k (drop (t * k) xs)) ≡ take (n * k) xs
  first_parts zero k xs room = rw (zero-mul k)
  first_parts (suc n) k xs room =
      let less : n * k ≤ length xs = omega (arith, suc-mul n k) in
      rw (first_parts n k xs less, suc-mul n k) (sym (take-add (n * k) k xs))

  pub get_d_over : (n : ℕ) (f : ℕ → A) (xs : List A) (i : ℕ) (d : A) → i < n → get_or (over n f xs) i d ≡ f i
  get_d_over n f xs i d below = get_or-append (tab n f) (drop n xs) d i (rw (length-tab n f) below) ∙ get_or-tab n f i d below

  pub tabs-add : (m n : ℕ) (f : ℕ → List A) → tabs (m + n) f ≡ tabs m f ++ tabs n (λ j. f (m + j))
  tabs-add m zero f = rw (add-zero m) (sym (append-nil (tabs m f)))
  tabs-add m (suc n) f = rw (add-suc m n, tabs-add m n f) (append_assoc (tabs m f) (tabs n (λ j. f (m + j))) (f (m + n)))

  -- lists one after another are their groups of k, one after another
  pub tabs-groups : (n k : ℕ) (f : ℕ → List A) → tabs (n * k) f ≡ tabs n (λ t. tabs k (λ j. f (t * k + j)))
  tabs-groups zero k f = rw (zero-mul k)
  tabs-groups (suc n) k f = rw (suc-mul n k, tabs-add (n * k) k f, tabs-groups n k f)
