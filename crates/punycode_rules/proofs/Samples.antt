-- Computed samples: the strings of RFC 3492, section 7.1, a trace of its section 7.2, the edges of its sections 5 and 6 and of RFC 3629, section 3,
-- which no sample string reaches, and those of 02, ticket [2].
use Prim.Native.Nat.{ℕ, ◌*◌}
use mathlib.Core.Path.{◌≡◌, refl}
use mathlib.Core.Bool.{true, false, not}
use mathlib.Core.List.{[], ◌∷◌, ◌++◌, map}
use mathlib.Core.Option.{none, some}
use Rattle.base_readers.specs.Texts.{bytes}
use Rattle.base_readers.proofs.Cases.{case, Says, copies}
use Rattle.lexis_rules.proofs.ClassExamples.{range, members}
use Rattle.punycode_rules.specs.Punycode.{base, tmin, tmax, skew, damp, initial_bias, initial_n, digit_of, scaled, adapt, basic, punycode}
use Rattle.punycode_rules.specs.Unicode.{utf8}
use Rattle.punycode_rules.specs.Labels.{prefixed, in_label, labels, decoded, spelling, any_prefixed, spelling_limit, double_hyphen}
use Rattle.punycode_rules.proofs.Unfolding.{opened}

-- ==== RFC 3492, section 7.1: the sample strings

-- (A) Arabic (Egyptian)
arabic : punycode (bytes "egbpdaj6bu4bxfgehfvwxn") ≡ some (0x0644 ∷ 0x064A ∷ 0x0647 ∷ 0x0645 ∷ 0x0627 ∷ 0x0628 ∷ 0x062A ∷ 0x0643 ∷ 0x0644 ∷ 0x0645 ∷ 0x0648 ∷ 0x0634 ∷ 0x0639 ∷ 0x0631 ∷ 0x0628 ∷ 0x064A ∷ 0x061F ∷ [])
unfolding opened
arabic = refl

-- (B) Chinese (simplified)
chinese-simplified : punycode (bytes "ihqwcrb4cv8a8dqg056pqjye") ≡ some (0x4ED6 ∷ 0x4EEC ∷ 0x4E3A ∷ 0x4EC0 ∷ 0x4E48 ∷ 0x4E0D ∷ 0x8BF4 ∷ 0x4E2D ∷ 0x6587 ∷ [])
unfolding opened
chinese-simplified = refl

-- (C) Chinese (traditional)
chinese-traditional : punycode (bytes "ihqwctvzc91f659drss3x8bo0yb") ≡ some (0x4ED6 ∷ 0x5011 ∷ 0x7232 ∷ 0x4EC0 ∷ 0x9EBD ∷ 0x4E0D ∷ 0x8AAA ∷ 0x4E2D ∷ 0x6587 ∷ [])
unfolding opened
chinese-traditional = refl

-- (D) Czech
czech : punycode (bytes "Proprostnemluvesky-uyb24dma41a") ≡ some (0x0050 ∷ 0x0072 ∷ 0x006F ∷ 0x010D ∷ 0x0070 ∷ 0x0072 ∷ 0x006F ∷ 0x0073 ∷ 0x0074 ∷ 0x011B ∷ 0x006E ∷ 0x0065 ∷ 0x006D ∷ 0x006C ∷ 0x0075 ∷ 0x0076 ∷ 0x00ED ∷ 0x010D ∷ 0x0065 ∷ 0x0073 ∷ 0x006B ∷ 0x0079 ∷ [])
unfolding opened
czech = refl

-- (E) Hebrew
hebrew : punycode (bytes "4dbcagdahymbxekheh6e0a7fei0b") ≡ some (0x05DC ∷ 0x05DE ∷ 0x05D4 ∷ 0x05D4 ∷ 0x05DD ∷ 0x05E4 ∷ 0x05E9 ∷ 0x05D5 ∷ 0x05D8 ∷ 0x05DC ∷ 0x05D0 ∷ 0x05DE ∷ 0x05D3 ∷ 0x05D1 ∷ 0x05E8 ∷ 0x05D9 ∷ 0x05DD ∷ 0x05E2 ∷ 0x05D1 ∷ 0x05E8 ∷ 0x05D9 ∷ 0x05EA ∷ [])
unfolding opened
hebrew = refl

-- (F) Hindi (Devanagari)
hindi : punycode (bytes "i1baa7eci9glrd9b2ae1bj0hfcgg6iyaf8o0a1dig0cd") ≡ some (0x092F ∷ 0x0939 ∷ 0x0932 ∷ 0x094B ∷ 0x0917 ∷ 0x0939 ∷ 0x093F ∷ 0x0928 ∷ 0x094D ∷ 0x0926 ∷ 0x0940 ∷ 0x0915 ∷ 0x094D ∷ 0x092F ∷ 0x094B ∷ 0x0902 ∷ 0x0928 ∷ 0x0939 ∷ 0x0940 ∷ 0x0902 ∷ 0x092C ∷ 0x094B ∷ 0x0932 ∷ 0x0938 ∷ 0x0915 ∷ 0x0924 ∷ 0x0947 ∷ 0x0939 ∷ 0x0948 ∷ 0x0902 ∷ [])
unfolding opened
hindi = refl

-- (G) Japanese (kanji and hiragana)
japanese : punycode (bytes "n8jok5ay5dzabd5bym9f0cm5685rrjetr6pdxa") ≡ some (0x306A ∷ 0x305C ∷ 0x307F ∷ 0x3093 ∷ 0x306A ∷ 0x65E5 ∷ 0x672C ∷ 0x8A9E ∷ 0x3092 ∷ 0x8A71 ∷ 0x3057 ∷ 0x3066 ∷ 0x304F ∷ 0x308C ∷ 0x306A ∷ 0x3044 ∷ 0x306E ∷ 0x304B ∷ [])
unfolding opened
japanese = refl

-- (H) Korean (Hangul syllables)
korean : punycode (bytes "989aomsvi5e83db1d2a355cv1e0vak1dwrv93d5xbh15a0dt30a5jpsd879ccm6fea98c") ≡ some (0xC138 ∷ 0xACC4 ∷ 0xC758 ∷ 0xBAA8 ∷ 0xB4E0 ∷ 0xC0AC ∷ 0xB78C ∷ 0xB4E4 ∷ 0xC774 ∷ 0xD55C ∷ 0xAD6D ∷ 0xC5B4 ∷ 0xB97C ∷ 0xC774 ∷ 0xD574 ∷ 0xD55C ∷ 0xB2E4 ∷ 0xBA74 ∷ 0xC5BC ∷ 0xB9C8 ∷ 0xB098 ∷ 0xC88B ∷ 0xC744 ∷ 0xAE4C ∷ [])
unfolding opened
korean = refl

-- (I) Russian (Cyrillic)
russian : punycode (bytes "b1abfaaepdrnnbgefbaDotcwatmq2g4l") ≡ some (0x043F ∷ 0x043E ∷ 0x0447 ∷ 0x0435 ∷ 0x043C ∷ 0x0443 ∷ 0x0436 ∷ 0x0435 ∷ 0x043E ∷ 0x043D ∷ 0x0438 ∷ 0x043D ∷ 0x0435 ∷ 0x0433 ∷ 0x043E ∷ 0x0432 ∷ 0x043E ∷ 0x0440 ∷ 0x044F ∷ 0x0442 ∷ 0x043F ∷ 0x043E ∷ 0x0440 ∷ 0x0443 ∷ 0x0441 ∷ 0x0441 ∷ 0x043A ∷ 0x0438 ∷ [])
unfolding opened
russian = refl

-- (J) Spanish
spanish : punycode (bytes "PorqunopuedensimplementehablarenEspaol-fmd56a") ≡ some (0x0050 ∷ 0x006F ∷ 0x0072 ∷ 0x0071 ∷ 0x0075 ∷ 0x00E9 ∷ 0x006E ∷ 0x006F ∷ 0x0070 ∷ 0x0075 ∷ 0x0065 ∷ 0x0064 ∷ 0x0065 ∷ 0x006E ∷ 0x0073 ∷ 0x0069 ∷ 0x006D ∷ 0x0070 ∷ 0x006C ∷ 0x0065 ∷ 0x006D ∷ 0x0065 ∷ 0x006E ∷ 0x0074 ∷ 0x0065 ∷ 0x0068 ∷ 0x0061 ∷ 0x0062 ∷ 0x006C ∷ 0x0061 ∷ 0x0072 ∷ 0x0065 ∷ 0x006E ∷ 0x0045 ∷ 0x0073 ∷ 0x0070 ∷ 0x0061 ∷ 0x00F1 ∷ 0x006F ∷ 0x006C ∷ [])
unfolding opened
spanish = refl

-- (K) Vietnamese
vietnamese : punycode (bytes "TisaohkhngthchnitingVit-kjcr8268qyxafd2f1b9g") ≡ some (0x0054 ∷ 0x1EA1 ∷ 0x0069 ∷ 0x0073 ∷ 0x0061 ∷ 0x006F ∷ 0x0068 ∷ 0x1ECD ∷ 0x006B ∷ 0x0068 ∷ 0x00F4 ∷ 0x006E ∷ 0x0067 ∷ 0x0074 ∷ 0x0068 ∷ 0x1EC3 ∷ 0x0063 ∷ 0x0068 ∷ 0x1EC9 ∷ 0x006E ∷ 0x00F3 ∷ 0x0069 ∷ 0x0074 ∷ 0x0069 ∷ 0x1EBF ∷ 0x006E ∷ 0x0067 ∷ 0x0056 ∷ 0x0069 ∷ 0x1EC7 ∷ 0x0074 ∷ [])
unfolding opened
vietnamese = refl

-- (L)
class-3b : punycode (bytes "3B-ww4c5e180e575a65lsy2b") ≡ some (0x0033 ∷ 0x5E74 ∷ 0x0042 ∷ 0x7D44 ∷ 0x91D1 ∷ 0x516B ∷ 0x5148 ∷ 0x751F ∷ [])
unfolding opened
class-3b = refl

-- (M)
with-super-monkeys : punycode (bytes "-with-SUPER-MONKEYS-pc58ag80a8qai00g7n9n") ≡ some (0x5B89 ∷ 0x5BA4 ∷ 0x5948 ∷ 0x7F8E ∷ 0x6075 ∷ 0x002D ∷ 0x0077 ∷ 0x0069 ∷ 0x0074 ∷ 0x0068 ∷ 0x002D ∷ 0x0053 ∷ 0x0055 ∷ 0x0050 ∷ 0x0045 ∷ 0x0052 ∷ 0x002D ∷ 0x004D ∷ 0x004F ∷ 0x004E ∷ 0x004B ∷ 0x0045 ∷ 0x0059 ∷ 0x0053 ∷ [])
unfolding opened
with-super-monkeys = refl

-- (N)
another-way : punycode (bytes "Hello-Another-Way--fc4qua05auwb3674vfr0b") ≡ some (0x0048 ∷ 0x0065 ∷ 0x006C ∷ 0x006C ∷ 0x006F ∷ 0x002D ∷ 0x0041 ∷ 0x006E ∷ 0x006F ∷ 0x0074 ∷ 0x0068 ∷ 0x0065 ∷ 0x0072 ∷ 0x002D ∷ 0x0057 ∷ 0x0061 ∷ 0x0079 ∷ 0x002D ∷ 0x305D ∷ 0x308C ∷ 0x305E ∷ 0x308C ∷ 0x306E ∷ 0x5834 ∷ 0x6240 ∷ [])
unfolding opened
another-way = refl

-- (O)
two-of-one-roof : punycode (bytes "2-u9tlzr9756bt3uc0v") ≡ some (0x3072 ∷ 0x3068 ∷ 0x3064 ∷ 0x5C4B ∷ 0x6839 ∷ 0x306E ∷ 0x4E0B ∷ 0x0032 ∷ [])
unfolding opened
two-of-one-roof = refl

-- (P)
maji-de-koi : punycode (bytes "MajiKoi5-783gue6qz075azm5e") ≡ some (0x004D ∷ 0x0061 ∷ 0x006A ∷ 0x0069 ∷ 0x3067 ∷ 0x004B ∷ 0x006F ∷ 0x0069 ∷ 0x3059 ∷ 0x308B ∷ 0x0035 ∷ 0x79D2 ∷ 0x524D ∷ [])
unfolding opened
maji-de-koi = refl

-- (Q)
pafii : punycode (bytes "de-jg4avhby1noc0d") ≡ some (0x30D1 ∷ 0x30D5 ∷ 0x30A3 ∷ 0x30FC ∷ 0x0064 ∷ 0x0065 ∷ 0x30EB ∷ 0x30F3 ∷ 0x30D0 ∷ [])
unfolding opened
pafii = refl

-- (R)
sono-speed : punycode (bytes "d9juau41awczczp") ≡ some (0x305D ∷ 0x306E ∷ 0x30B9 ∷ 0x30D4 ∷ 0x30FC ∷ 0x30C9 ∷ 0x3067 ∷ [])
unfolding opened
sono-speed = refl

-- (S)
dollars : punycode (bytes "-> $1.00 <--") ≡ some (0x002D ∷ 0x003E ∷ 0x0020 ∷ 0x0024 ∷ 0x0031 ∷ 0x002E ∷ 0x0030 ∷ 0x0030 ∷ 0x0020 ∷ 0x003C ∷ 0x002D ∷ [])
unfolding opened
dollars = refl

-- ==== RFC 3492, section 7.2: the bias after each delta of the decoding trace of (B)

biases :
    (adapt 19853 1 true ∷ adapt 64 2 false ∷ adapt 37 3 false ∷ adapt 56 4 false ∷ adapt 599 5 false ∷ adapt 130 6 false ∷ adapt 154 7 false ∷ adapt 46301 8 false ∷ adapt 88531 9 false ∷ []) ≡ 21 ∷ 20 ∷ 13 ∷ 17 ∷ 32 ∷ 23 ∷ 25 ∷ 84 ∷ 90 ∷ []
unfolding opened
biases = refl

-- ==== RFC 3492, sections 5 and 6: the edges

-- section 5: the parameters, in its order
parameters : base ∷ tmin ∷ tmax ∷ skew ∷ damp ∷ initial_bias ∷ initial_n ∷ [] ≡ 36 ∷ 1 ∷ 26 ∷ 38 ∷ 700 ∷ 72 ∷ 0x80 ∷ []
parameters = refl

-- section 5: the digit of each byte: 0 to 9 are 26 to 35, A to Z and a to z are 0 to 25, and 36 says that it is none: "/", ":", "@", "[", "`" and "{", which
-- stand next to these, are none
digits : map digit_of (range 0 255) ≡ copies 48 36 ++ range 26 35 ++ copies 7 36 ++ range 0 25 ++ copies 6 36 ++ range 0 25 ++ copies 133 36
unfolding opened
digits = refl

-- section 5: the basic code points: 7F hex is the last
basics : members (λ x. basic (x ∷ [])) ≡ range 0 0x7F
unfolding opened
basics = refl

-- section 6.1: while delta > 455: 455 itself is not scaled down, 456 is; so is 468, which (base * tmax) div 2 would leave
scales : map (λ (delta : ℕ). scaled delta 0 delta) (455 ∷ 456 ∷ 468 ∷ []) ≡ 33 ∷ 45 ∷ 45 ∷ []
unfolding opened
scales = refl

-- where no turns are left, nothing is scaled down
scales-last : map (scaled 0 7) (0 ∷ 38 ∷ 456 ∷ []) ≡ 7 ∷ 25 ∷ 40 ∷ []
unfolding opened
scales-last = refl

-- section 6.2: the first time is where oldi is 0: not the second one here, though n is still its initial 80 hex then
first-time : punycode (bytes "a434vda") ≡ some (0x80 ∷ 0x3000 ∷ 0x3001 ∷ [])
unfolding opened
first-time = refl

-- ==== RFC 3629, section 3: the last number of each form and the first of the next, and of each first byte

forms-short :
    map utf8 (0x7F ∷ 0x80 ∷ 0xBF ∷ 0xC0 ∷ 0x7FF ∷ [])
    ≡ (0x7F ∷ []) ∷ (0xC2 ∷ 0x80 ∷ []) ∷ (0xC2 ∷ 0xBF ∷ []) ∷ (0xC3 ∷ 0x80 ∷ []) ∷ (0xDF ∷ 0xBF ∷ []) ∷ []
unfolding opened
forms-short = refl

forms-three :
    map utf8 (0x800 ∷ 0xFFF ∷ 0x1000 ∷ 0xFFFF ∷ [])
    ≡ (0xE0 ∷ 0xA0 ∷ 0x80 ∷ []) ∷ (0xE0 ∷ 0xBF ∷ 0xBF ∷ []) ∷ (0xE1 ∷ 0x80 ∷ 0x80 ∷ []) ∷ (0xEF ∷ 0xBF ∷ 0xBF ∷ []) ∷ []
unfolding opened
forms-three = refl

forms-four :
    map utf8 (0x10000 ∷ 0x3FFFF ∷ 0x40000 ∷ 0x10FFFF ∷ [])
    ≡ (0xF0 ∷ 0x90 ∷ 0x80 ∷ 0x80 ∷ []) ∷ (0xF0 ∷ 0xBF ∷ 0xBF ∷ 0xBF ∷ []) ∷ (0xF1 ∷ 0x80 ∷ 0x80 ∷ 0x80 ∷ []) ∷ (0xF4 ∷ 0x8F ∷ 0xBF ∷ 0xBF ∷ []) ∷ []
unfolding opened
forms-four = refl

-- ==== 02, ticket [2]: the edges

-- the edges: nothing behind the prefix; a hyphen that is first is no delimiter; a number cut short; no digit, also where digits follow; a byte from
-- 128 up
edges :
    Says punycode
    (case [] (some [])
    ∷ case (bytes "-") none
    ∷ case (bytes "--") (some (bytes "-"))
    ∷ case (bytes "example-") (some (bytes "example"))
    ∷ case (bytes "mller-kva") (some (109 ∷ 252 ∷ bytes "ller"))
    ∷ case (bytes "mller-KVA") (some (109 ∷ 252 ∷ bytes "ller"))
    ∷ case (bytes "mller-kv") none
    ∷ case (bytes "mller-k!") none
    ∷ case (bytes "mller-k!a") none
    ∷ case (252 ∷ bytes "-kva") none
    ∷ [])
unfolding opened
edges = refl

-- a surrogate, and a number above 10FFFF; the next ones that are good
bounds :
    Says decoded
    (case (bytes "hb9b") (some (55295 ∷ []))
    ∷ case (bytes "ib9b") none
    ∷ case (bytes "zy0c") none
    ∷ case (bytes "0y0c") (some (57344 ∷ []))
    ∷ case (bytes "dn32g") (some (1114111 ∷ []))
    ∷ case (bytes "en32g") none
    ∷ case (bytes "8016146o") none
    ∷ case (bytes "a-h023pda") none
    ∷ [])
unfolding opened
bounds = refl

-- whole texts: labels parted by ".", the prefix and the digits in either case, decoded once; what doesn't decode stays as it stands
texts :
    Says spelling
    (case (bytes "example.com") (bytes "example.com")
    ∷ case (bytes "xn--bcher-kva.example") (98 ∷ 195 ∷ 188 ∷ bytes "cher.example")
    ∷ case (98 ∷ 195 ∷ 188 ∷ bytes "cher.example") (98 ∷ 195 ∷ 188 ∷ bytes "cher.example")
    ∷ case (bytes "mail.XN--BCHER-KVA.Example") (bytes "mail.B" ++ (195 ∷ 188 ∷ bytes "CHER.Example"))
    ∷ case (bytes "Xn--mller-kva") (109 ∷ 195 ∷ 188 ∷ bytes "ller")
    ∷ case (bytes "xN--mller-Kva") (109 ∷ 195 ∷ 188 ∷ bytes "ller")
    ∷ case (bytes "xn--mller-kva.xn--mller-kva") (109 ∷ 195 ∷ 188 ∷ bytes "ller.m" ++ (195 ∷ 188 ∷ bytes "ller"))
    ∷ case (bytes "a.xn--") (bytes "a.")
    ∷ case (bytes "xn--example-") (bytes "example")
    ∷ case (bytes "xn----") (bytes "-")
    ∷ case (bytes "xn---") (bytes "xn---")
    ∷ case (bytes "xn--xn--mller-kva-") (bytes "xn--mller-kva")
    ∷ case (bytes "xn-mller-kva") (bytes "xn-mller-kva")
    ∷ case (bytes "xn--mller-k!") (bytes "xn--mller-k!")
    ∷ case (bytes "xn--m" ++ (252 ∷ bytes "ller-kva")) (bytes "xn--m" ++ (252 ∷ bytes "ller-kva"))
    ∷ case (bytes "xn--ib9b.xn--hb9b") (bytes "xn--ib9b." ++ (237 ∷ 159 ∷ 191 ∷ []))
    ∷ case (bytes "xn--en32g.xn--dn32g") (bytes "xn--en32g." ++ (244 ∷ 143 ∷ 191 ∷ 191 ∷ []))
    ∷ case (bytes ".") (bytes ".")
    ∷ case [] []
    ∷ [])
unfolding opened
texts = refl

-- two hyphens in a row, and labels that start with xn--
hyphens : Says double_hyphen (case (bytes "a--b") true ∷ case (bytes "a-b-") false ∷ case (bytes "--") true ∷ case (bytes "-") false ∷ case [] false ∷ [])
unfolding opened
hyphens = refl

prefixes : Says (λ t. any_prefixed (labels t)) (case (bytes "a.xN--b") true ∷ case (bytes "a.xn-b") false ∷ case (bytes "a.mxn--b") false ∷ [])
unfolding opened
prefixes = refl

-- the prefix at each of its four bytes: either case, and no byte next to one of these
prefix-bytes :
    Says prefixed
    (case (bytes "xn--") true
    ∷ case (bytes "XN--") true
    ∷ case (bytes "wn--") false
    ∷ case (bytes "yn--") false
    ∷ case (bytes "Wn--") false
    ∷ case (bytes "Yn--") false
    ∷ case (bytes "xm--") false
    ∷ case (bytes "xo--") false
    ∷ case (bytes "xM--") false
    ∷ case (bytes "xO--") false
    ∷ case (bytes "xn,-") false
    ∷ case (bytes "xn.-") false
    ∷ case (bytes "xn-,") false
    ∷ case (bytes "xn-.") false
    ∷ case (bytes "xn-") false
    ∷ [])
unfolding opened
prefix-bytes = refl

-- the one byte that is of no label
label-bytes : members (λ x. not (in_label x)) ≡ bytes "."
unfolding in_label
label-bytes = refl

-- an entry has 255 bytes at most, and none stands for more than four of its spelling
limit : spelling_limit ≡ 255 * 4
limit = refl
