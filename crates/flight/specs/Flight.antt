-- The copies in flight (document 01, "The bench"): a list of at most 512, in the first places of an array, each packed into three words.
use Rattle.std.specs.Prelude.{ℕ, ◌+◌, ◌-◌, ◌*◌, ◌/◌, ◌%◌, ◌^◌, ◌<◌, ◌≡◌, false, cond, eqb, get_or, set, take, drop, length, replicate}
use mathlib.Core.List.{List, [], ◌∷◌, ◌++◌, map, Memᴰ}
use Rattle.frame.specs.Header.{bit, no_header}
use Rattle.flight.specs.declared.Copy.{Copy}

-- how many copies may be in flight
abbrev pub most : ℕ
most = 512

-- an empty place: all zeros
abbrev pub no_copy : Copy
no_copy = record { link = 0; second = false; source = 0; destination = 0; header = no_header }

-- its words
abbrev pub no_words : List ℕ
no_words = 0 ∷ 0 ∷ 0 ∷ []

-- what the types of a copy's fields hold
pub record Ranged (c : Copy) : Type 0 where
  pub link : c.link < 2 ^ 8
  pub hc : c.header.hc < 2 ^ 8
  pub nonce : c.header.nonce < 2 ^ 32

-- ---- A copy in three words

-- the rest beside the addresses: link, second, L, F, HC and nonce, from the lowest bit on
abbrev pub rest_of : Copy → ℕ
rest_of c = c.link + 2 ^ 8 * (bit c.second + 2 * bit c.header.l + 4 * bit c.header.f) + 2 ^ 11 * c.header.hc + 2 ^ 19 * c.header.nonce

-- the words of a copy: source, destination and the rest
unfoldable pub pack : Copy → List ℕ
pack c = c.source ∷ c.destination ∷ rest_of c ∷ []

-- the copy that three words carry
unfoldable pub unpack : List ℕ → Copy
unpack w =
    record {
      link = get_or w 2 0 % 2 ^ 8;
      second = eqb (get_or w 2 0 / 2 ^ 8 % 2) 1;
      source = get_or w 0 0;
      destination = get_or w 1 0;
      header = record { l = eqb (get_or w 2 0 / 2 ^ 9 % 2) 1; f = eqb (get_or w 2 0 / 2 ^ 10 % 2) 1; hc = get_or w 2 0 / 2 ^ 11 % 2 ^ 8; nonce = get_or w 2 0 / 2 ^ 19 % 2 ^ 32 };
    }

-- the copy that the words at a place carry; none behind the end
abbrev pub copy_at : List (List ℕ) → ℕ → Copy
copy_at words place = unpack (get_or words place [])

-- the copies that the first n places carry: those in flight
unfoldable pub copies_in : ℕ → List (List ℕ) → List Copy
copies_in n words = map unpack (take n words)

-- ---- What leaves the list

-- the one at place k is taken out, those behind move up one
unfoldable pub without : {A : Type 0} → ℕ → List A → List A
without k xs = take k xs ++ drop (k + 1) xs

-- a link set down loses the copies on it
unfoldable pub spared : ℕ → List Copy → List Copy
spared link [] = []
spared link (c ∷ cs) = cond (eqb c.link link) (spared link cs) (c ∷ spared link cs)

-- the words of those left
unfoldable pub spared_words : ℕ → List (List ℕ) → List (List ℕ)
spared_words link [] = []
spared_words link (w ∷ ws) = cond (eqb (unpack w).link link) (spared_words link ws) (w ∷ spared_words link ws)

-- each copy of a list is so
pub record All (P : Copy → Type 0) (xs : List Copy) : Type 0 where
  pub each : (c : Copy) → Memᴰ c xs → P c

-- ---- What the functions promise of the words before and after them

-- an array whose first places hold these, the others what they held
unfoldable pub laid : {A : Type 0} → List A → List A → List A
laid xs a = xs ++ drop (length xs) a

-- of n copies the one at a place was taken out
pub record TakenOut (place n : ℕ) (before after : List (List ℕ)) : Type 0 where
  pub copies : copies_in (n - 1) after ≡ without place (copies_in n before)
  pub words : after ≡ laid (without place (take n before)) before

-- of n copies those on a link were cut, and so many are left
pub record Cut (link n : ℕ) (before after : List (List ℕ)) (left : ℕ) : Type 0 where
  pub count : left ≡ length (spared link (copies_in n before))
  pub copies : copies_in left after ≡ spared link (copies_in n before)
  pub words : after ≡ laid (spared_words link (take n before)) before

-- one joined n copies
pub record Joined (n : ℕ) (c : Copy) (before after : List (List ℕ)) : Type 0 where
  pub copies : copies_in (n + 1) after ≡ copies_in n before ++ (c ∷ [])
  pub words : after ≡ set before n (pack c)

-- the words carry the first n copies, and none behind them
pub record Worded (n : ℕ) (array : List Copy) (after : List (List ℕ)) : Type 0 where
  pub copies : copies_in n after ≡ take n array
  pub words : after ≡ map pack (take n array) ++ replicate (most - n) no_words
