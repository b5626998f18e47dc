-- A number of sixteen bytes and its halves.
use Rattle.std.proofs.Common.{◌≡◌, ℕ, ◌+◌, ◌*◌, ◌^◌, ◌<◌, ◌/◌, ◌%◌, List, [], ◌∷◌, ◌++◌, length, refl, sym, ap, ◌∙◌, arith}
use Rattle.std.specs.Int.{w64, w128, from_be_bytes, to_be_bytes}
use Rattle.std.proofs.lemmas.Nat.{be_bytes_8, from_be_bytes-to_be_bytes_8}
use Rattle.mr_record.proofs.Encodings.{IsBytes, IsBytes-take, IsBytes-drop, word_below}

of_halves : (a b c d e f g h : ℕ) (low : List ℕ)
    → from_be_bytes w128 (a ∷ b ∷ c ∷ d ∷ e ∷ f ∷ g ∷ h ∷ low) ≡ from_be_bytes w64
    (a ∷ b ∷ c ∷ d ∷ e ∷ f ∷ g ∷ h ∷ []) * 2 ^ 64 + from_be_bytes w64 low
of_halves a b c d e f g h low = omega arith

low_0 : (x y : ℕ) → (x * 2 ^ 64 + y) % 256 ≡ y % 256
low_0 x y = omega arith

low_1 : (x y : ℕ) → (x * 2 ^ 64 + y) / 256 % 256 ≡ y / 256 % 256
low_1 x y = omega arith

low_2 : (x y : ℕ) → (x * 2 ^ 64 + y) / 65536 % 256 ≡ y / 65536 % 256
low_2 x y = omega arith

low_3 : (x y : ℕ) → (x * 2 ^ 64 + y) / 16777216 % 256 ≡ y / 16777216 % 256
low_3 x y = omega arith

low_4 : (x y : ℕ) → (x * 2 ^ 64 + y) / 4294967296 % 256 ≡ y / 4294967296 % 256
low_4 x y = omega arith

low_5 : (x y : ℕ) → (x * 2 ^ 64 + y) / 1099511627776 % 256 ≡ y / 1099511627776 % 256
low_5 x y = omega arith

low_6 : (x y : ℕ) → (x * 2 ^ 64 + y) / 281474976710656 % 256 ≡ y / 281474976710656 % 256
low_6 x y = omega arith

low_7 : (x y : ℕ) → (x * 2 ^ 64 + y) / 72057594037927936 % 256 ≡ y / 72057594037927936 % 256
low_7 x y = omega arith

high_0 : (x y : ℕ) → y < 2 ^ 64 → (x * 2 ^ 64 + y) / 18446744073709551616 % 256 ≡ x % 256
high_0 x y lt = omega arith

high_1 : (x y : ℕ) → y < 2 ^ 64 → (x * 2 ^ 64 + y) / 4722366482869645213696 % 256 ≡ x / 256 % 256
high_1 x y lt = omega arith

high_2 : (x y : ℕ) → y < 2 ^ 64 → (x * 2 ^ 64 + y) / 1208925819614629174706176 % 256 ≡ x / 65536 % 256
high_2 x y lt = omega arith

high_3 : (x y : ℕ) → y < 2 ^ 64 → (x * 2 ^ 64 + y) / 309485009821345068724781056 % 256 ≡ x / 16777216 % 256
high_3 x y lt = omega arith

high_4 : (x y : ℕ) → y < 2 ^ 64 → (x * 2 ^ 64 + y) / 79228162514264337593543950336 % 256 ≡ x / 4294967296 % 256
high_4 x y lt = omega arith

high_5 : (x y : ℕ) → y < 2 ^ 64 → (x * 2 ^ 64 + y) / 20282409603651670423947251286016 % 256 ≡ x / 1099511627776 % 256
high_5 x y lt = omega arith

high_6 : (x y : ℕ) → y < 2 ^ 64 → (x * 2 ^ 64 + y) / 5192296858534827628530496329220096 % 256 ≡ x / 281474976710656 %
    256
high_6 x y lt = omega arith

high_7 : (x y : ℕ) → y < 2 ^ 64 → (x * 2 ^ 64 + y) / 1329227995784915872903807060280344576 % 256 ≡ x / 72057594037927936
    % 256
high_7 x y lt = omega arith

halves : (x y : ℕ) → y < 2 ^ 64 → to_be_bytes w128 (x * 2 ^ 64 + y) ≡ to_be_bytes w64 x ++ to_be_bytes w64 y
halves x y lt =
    λ i. high_7 x y lt i ∷ high_6 x y lt i ∷ high_5 x y lt i ∷ high_4 x y lt i ∷ high_3 x y lt i ∷ high_2 x y lt i ∷
    high_1 x y lt i ∷ high_0 x y lt i
    ∷ low_7 x y i ∷ low_6 x y i ∷ low_5 x y i ∷ low_4 x y i ∷ low_3 x y i ∷ low_2 x y i ∷ low_1 x y i ∷ low_0 x y i ∷ []

cells_is : (a b c d e f g h : ℕ) (low : List ℕ) → length low ≡ 8 → IsBytes (a ∷ b ∷ c ∷ d ∷ e ∷ f ∷ g ∷ h ∷ low)
    → to_be_bytes w128 (from_be_bytes w128 (a ∷ b ∷ c ∷ d ∷ e ∷ f ∷ g ∷ h ∷ low)) ≡ a ∷ b ∷ c ∷ d ∷ e ∷ f ∷ g ∷ h ∷ low
cells_is a b c d e f g h low long fits =
    let front = a ∷ b ∷ c ∷ d ∷ e ∷ f ∷ g ∷ h ∷ [] in
    let raw = a ∷ b ∷ c ∷ d ∷ e ∷ f ∷ g ∷ h ∷ low in
    let front_fits : IsBytes front = IsBytes-take 8 raw fits in
    let low_fits : IsBytes low = IsBytes-drop 8 raw fits in
    let x = be_bytes_8 front (from_be_bytes w64 front) refl front_fits refl in
    let y = be_bytes_8 low (from_be_bytes w64 low) long low_fits refl in
    ap (to_be_bytes w128) (of_halves a b c d e f g h low)
    ∙ halves (from_be_bytes w64 front) (from_be_bytes w64 low) (word_below low low_fits)
    ∙ (λ i. x i ++ y i)

pub wide_is : (raw : List ℕ) → length raw ≡ 16 → IsBytes raw → raw ≡ to_be_bytes w128 (from_be_bytes w128 raw)
wide_is [] long fits = absurd (omega arith)
wide_is (a ∷ []) long fits = absurd (omega arith)
wide_is (a ∷ b ∷ []) long fits = absurd (omega arith)
wide_is (a ∷ b ∷ c ∷ []) long fits = absurd (omega arith)
wide_is (a ∷ b ∷ c ∷ d ∷ []) long fits = absurd (omega arith)
wide_is (a ∷ b ∷ c ∷ d ∷ e ∷ []) long fits = absurd (omega arith)
wide_is (a ∷ b ∷ c ∷ d ∷ e ∷ f ∷ []) long fits = absurd (omega arith)
wide_is (a ∷ b ∷ c ∷ d ∷ e ∷ f ∷ g ∷ []) long fits = absurd (omega arith)
wide_is (a ∷ b ∷ c ∷ d ∷ e ∷ f ∷ g ∷ h ∷ low) long fits = sym (cells_is a b c d e f g h low (omega arith) fits)

pub wide_again : (n : ℕ) → n < 2 ^ 128 → from_be_bytes w128 (to_be_bytes w128 n) ≡ n
wide_again n lt =
    let x = n / 2 ^ 64 in
    let y = n % 2 ^ 64 in
    let low : y < 2 ^ 64 = omega arith in
    let high : x < 2 ^ 64 = omega arith in
    let parts : n ≡ x * 2 ^ 64 + y = omega arith in
    let of : from_be_bytes w128 (to_be_bytes w64 x ++ to_be_bytes w64 y) ≡ from_be_bytes w64
    (to_be_bytes w64 x) * 2 ^ 64 + from_be_bytes w64 (to_be_bytes w64 y) = of_halves _ _ _ _ _ _ _ _
    (to_be_bytes w64 y) in
    let front = from_be_bytes-to_be_bytes_8 x high in
    let back = from_be_bytes-to_be_bytes_8 y low in
    ap (from_be_bytes w128) (ap (to_be_bytes w128) parts ∙ halves x y low) ∙ of ∙ (λ i. front i * 2 ^ 64 + back i)
    ∙ sym parts
