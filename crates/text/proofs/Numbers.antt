-- Numbers as text: their last group of digits, and how long they are. Assumes nothing.
use mathlib.Core.Path.{◌≡◌, refl, ap}
use mathlib.Core.List.{List, ◌++◌}
use Prim.Native.Nat.{ℕ, zero, suc, ◌+◌, ◌*◌, ◌/◌, ◌%◌, ◌^◌, ◌<◌, ◌≤◌}
use native.Mathlib.Nat.{pow-zero, pow-suc, one-mul, suc-mul, div-lt_self, div-lt_iff_lt-mul}
use native.Mathlib.Omega.{arith}
use borrow.Author.Tests.{lt-ltb, le-ltb}
use lib.ListN.{length, length-append}
use Rattle.wire.proofs.Cases.{by_order}
use Rattle.text.specs.Numbers.{groups_in, one_digit, decimal_of, three_of, commas, hex_of}

module _ (base : ℕ) (some : 1 < base) where
  smaller : (n : ℕ) → base ≤ n → n / base < n
  smaller n above = div-lt_self (omega arith) some

  -- a proof for every number, by what is left of it without its last group
  by_groups_in : (P : ℕ → Type 0) → ((n : ℕ) → n < base → P n) → ((n : ℕ) → base ≤ n → P (n / base) → P n) → (k n : ℕ) → n < k → P n
  by_groups_in P one more zero n h = absurd (omega arith)
  by_groups_in P one more (suc k) n h =
      by_order n base (one n) (λ above. more n above (by_groups_in P one more k (n / base) (omega (arith, smaller n above))))

  pub by_groups : (P : ℕ → Type 0) → ((n : ℕ) → n < base → P n) → ((n : ℕ) → base ≤ n → P (n / base) → P n) → (n : ℕ) → P n
  by_groups P one more n = by_groups_in P one more (suc n) n (omega arith)

  module _ (first later : ℕ → List ℕ) where
    -- any number above n is enough to find the groups of n
    enough : (k m n : ℕ) → n < k → n < m → groups_in base first later k n ≡ groups_in base first later m n
    unfolding groups_in
    enough zero m n hk hm = absurd (omega arith)
    enough (suc k) zero n hk hm = absurd (omega arith)
    enough (suc k) (suc m) n hk hm =
        by_order n base
        (λ below. rw (lt-ltb n base below))
        (λ above.
        let less = smaller n above in
        rw (le-ltb n base above) (ap (λ l. l ++ later (n % base)) (enough k m (n / base) (omega arith) (omega arith))))

    abbrev groups : ℕ → List ℕ
    groups n = groups_in base first later (suc n) n

    pub one_group : (n : ℕ) → n < base → groups n ≡ first n
    unfolding groups_in
    one_group n below = rw (lt-ltb n base below)

    pub last_group : (n : ℕ) → base ≤ n → groups n ≡ groups (n / base) ++ later (n % base)
    unfolding groups_in
    last_group n above =
        rw (le-ltb n base above)
        (ap (λ l. l ++ later (n % base)) (enough n (suc (n / base)) (n / base) (smaller n above) (omega arith)))

    pub groups-length : (w v : ℕ) → ((n : ℕ) → n < base → length (first n) ≤ w) → ((n : ℕ) → length (later n) ≤ v)
        → (k n : ℕ) → n < base ^ suc k → length (groups n) ≤ w + k * v
    groups-length w v ones laters zero n h =
        let below : n < base = rw (pow-suc base 0, pow-zero base, one-mul base) at h in
        rw (one_group n below) (omega (arith, ones n below))
    groups-length w v ones laters (suc k) n h =
        by_order n base
        (λ below. rw (one_group n below) (omega (arith, ones n below)))
        (λ above.
        let fewer : n / base < base ^ suc k = (div-lt_iff_lt-mul (omega arith)).1 (rw (pow-suc base (suc k)) at h) in
        rw (last_group n above, length-append (groups (n / base)) (later (n % base)))
        (omega (arith, groups-length w v ones laters k (n / base) fewer, laters (n % base), suc-mul k v)))

module _ (n : ℕ) where
  pub one_digit_lem : n < 10 → decimal_of n ≡ one_digit n
  unfolding decimal_of
  one_digit_lem below = one_group 10 (omega arith) one_digit one_digit n below

  pub last_digit : 10 ≤ n → decimal_of n ≡ decimal_of (n / 10) ++ one_digit (n % 10)
  unfolding decimal_of
  last_digit above = last_group 10 (omega arith) one_digit one_digit n above

  pub no_comma : n < 1000 → commas n ≡ decimal_of n
  unfolding commas
  no_comma below = one_group 1000 (omega arith) decimal_of three_of n below

  pub last_three : 1000 ≤ n → commas n ≡ commas (n / 1000) ++ three_of (n % 1000)
  unfolding commas
  last_three above = last_group 1000 (omega arith) decimal_of three_of n above

pub decimal-length : (k n : ℕ) → n < 10 ^ suc k → length (decimal_of n) ≤ suc k
unfolding decimal_of
decimal-length k n h = omega (arith, groups-length 10 (omega arith) one_digit one_digit 1 1 (λ m below. omega arith) (λ m. omega arith) k n h)

pub commas-length : (k n : ℕ) → n < 1000 ^ suc k → length (commas n) ≤ 3 + k * 4
unfolding commas
commas-length = groups-length 1000 (omega arith) decimal_of three_of 3 4 (λ m below. decimal-length 2 m (omega arith)) (λ m. omega arith)

pub hex-length : (b : ℕ) → length (hex_of b) ≡ 2
unfolding hex_of
hex-length b = refl
