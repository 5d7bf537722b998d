-- How long a screen can be: a byte of a script takes at most 23 bytes of the text, a space and a name of 22, and a mark takes 16. Assumes nothing.
use mathlib.Core.Path.{◌≡◌, refl, ap}
use mathlib.Core.Bool.{true, false}
use mathlib.Core.List.{List, [], ◌∷◌, ◌++◌}
use mathlib.Core.Logic.{⊎_elim}
use Prim.Native.Nat.{ℕ, zero, suc, ◌+◌, ◌-◌, ◌*◌, ◌/◌, ◌%◌, ◌≤◌, ◌<◌}
use native.Mathlib.Omega.{arith}
use borrow.Author.Tests.{lt-ltb, le-leb, ne_eqb}
use lib.Dec.{ltb}
use lib.ListN.{length, get_or, take, drop, length-append, length-drop}
use lib.Seq.{length-take-le}
use Rattle.laws.specs.Said.{answers}
use Rattle.laws.proofs.Test.{by_test, lt_or_le}
use Rattle.opcodes.specs.Opcode.{sort_of, length_bytes_after}
use Rattle.pool.specs.Text.{text, digits, decimal}
use Rattle.templates.specs.Kind.{Kind, p2pkh, p2sh, p2wpkh, p2wsh, p2tr, p2a, witness, p2pk, multisig, opreturn, other, kind_of}
use Rattle.counts.specs.Count.{get_sig_op_count}
use Rattle.dust.specs.Dust.{dust_of}
use Rattle.asm.specs.Asm.{opcode_text, data_text, space_at, data_len, text_from, text_of}
use Rattle.asm.proofs.Turn.{ends, length_cut, opened, behind, behind_cut, behind_whole}
use Rattle.asm.proofs.Sizes.{hex_length, space_short, opcode_short}
use Rattle.screen.specs.Screen.{most_shown, kind_name, line, both_counts, screen_of, inspect_says}
use Rattle.screen.specs.Steps.{head_of}
use Rattle.screen.proofs.Whole.{over, within_length}

digits_short : (k n : ℕ) (rest : List ℕ) → length (digits k n rest) ≤ k + length rest
unfolding digits
digits_short zero n rest = omega arith
digits_short (suc k) n rest =
    by_test (λ l. length l ≤ suc k + length rest) (ltb n 10) {x = (48 + n) ∷ rest} {y = digits k (n / 10) ((48 + n % 10) ∷ rest)}
    (λ e. omega arith) (λ e. omega (arith, digits_short k (n / 10) ((48 + n % 10) ∷ rest)))

pub decimal_short : (n : ℕ) → length (decimal n) ≤ 20
unfolding decimal
decimal_short n = omega (arith, digits_short 20 n [])

pub kind_short : (k : Kind) → length (text (kind_name k)) ≤ 8
kind_short p2pkh = omega arith
kind_short p2sh = omega arith
kind_short p2wpkh = omega arith
kind_short p2wsh = omega arith
kind_short p2tr = omega arith
kind_short p2a = omega arith
kind_short witness = omega arith
kind_short p2pk = omega arith
kind_short multisig = omega arith
kind_short opreturn = omega arith
kind_short other = omega arith

data_tight : (body : List ℕ) → length (data_text body) ≤ 3 * length body
unfolding data_text
data_tight [] = omega arith
data_tight (b ∷ body) = simp (ne_eqb (suc (length body)) 0 (omega arith)) (omega (arith, hex_length (b ∷ body)))

module _ (s : List ℕ) (bytes : (i : ℕ) → get_or s i 0 < 256) where
  -- the rest of the text, of a script that goes on for so many bytes at most
  abbrev Short : ℕ → Type 0
  Short at = length (text_from s at) ≤ 23 * (length s - at) + 16

  module _ (at : ℕ) (h : at < length s) where
    abbrev k : ℕ
    k = length_bytes_after (sort_of (get_or s at 0))

    abbrev len : ℕ
    len = data_len s at

    -- the space and the name
    named : (at + 1 + k ≤ length s) → length (text_from s at) ≤ 23 + length (behind s at)
    named there =
        omega (
          arith,
          ap length (opened s at h refl there),
          length-append (space_at at) (opcode_text (get_or s at 0) ++ behind s at),
          length-append (opcode_text (get_or s at 0)) (behind s at),
          space_short at,
          opcode_short (get_or s at 0) (bytes at),
        )

    whole : (there : at + 1 + k ≤ length s) → len ≤ length s - (at + 1 + k) → Short (at + 1 + k + len) → Short at
    whole there l i =
        let body : List ℕ = take len (drop (at + 1 + k) s) in
        let n : length body ≡ len = length-take-le len (drop (at + 1 + k) s) (simp length-drop l) in
        omega (
          arith,
          named there,
          ap length (behind_whole s at h refl there refl l),
          length-append (data_text body) (text_from s (at + 1 + k + len)),
          data_tight body,
        )

    step : ((next : ℕ) → at < next → Short next) → Short at
    step i =
        ⊎_elim
        (λ (c : length s < at + 1 + k). omega (arith, ap length (length_cut s at h refl c)))
        (λ (there : at + 1 + k ≤ length s).
        ⊎_elim
        (λ (c : length s - (at + 1 + k) < len). omega (arith, named there, ap length (behind_cut s at h refl there refl c)))
        (λ (l : len ≤ length s - (at + 1 + k)). whole there l (i (at + 1 + k + len) (omega arith)))
        (lt_or_le (length s - (at + 1 + k)) len))
        (lt_or_le (length s) (at + 1 + k))

  short : (turns at : ℕ) → length s - at ≤ turns → Short at
  short zero at g = omega (arith, ap length (ends s at (omega arith)))
  short (suc turns) at g =
      ⊎_elim
      (λ (h : at < length s). step at h (λ next l. short turns next (omega arith)))
      (λ (e : length s ≤ at). omega (arith, ap length (ends s at e)))
      (lt_or_le at (length s))

  pub text_short : length (text_of s) ≤ 23 * length s + 16
  unfolding text_of
  text_short = omega (arith, short (length s) 0 (omega arith))

head_short : (s : List ℕ) → length (head_of s) ≤ 121
unfolding head_of
head_short s =
    let size = decimal (length s) in
    let name = text (kind_name (kind_of s)) in
    let accurate = decimal (get_sig_op_count true s) in
    let legacy = decimal (get_sig_op_count false s) in
    let dust = decimal (dust_of s) in
    let a = line "length" size in
    let b = line "kind" name in
    let c = line "sigops" (both_counts s) in
    let d = line "dust" dust in
    omega (
      arith,
      length-append (a ++ b ++ c) (d ++ text "asm "),
      length-append (a ++ b) c,
      length-append a b,
      length-append d (text "asm "),
      length-append size (10 ∷ []),
      length-append name (10 ∷ []),
      length-append (both_counts s) (10 ∷ []),
      length-append accurate (text " " ++ legacy),
      length-append dust (10 ∷ []),
      decimal_short (length s),
      kind_short (kind_of s),
      decimal_short (get_sig_op_count true s),
      decimal_short (get_sig_op_count false s),
      decimal_short (dust_of s),
    )

-- 121 bytes of head, 23 for each of 2,800 bytes and a mark, and a line end
pub screen_short : (s : List ℕ) → ((i : ℕ) → get_or s i 0 < 256) → length (screen_of s) ≤ 64538
unfolding decimal digits
screen_short s bytes =
    ⊎_elim
    (λ (h : most_shown < length s). omega (arith, ap length (over s (lt-ltb most_shown (length s) h))))
    (λ (h : length s ≤ most_shown). omega (arith, within_length s h, head_short s, text_short s bytes))
    (lt_or_le most_shown (length s))

-- a buffer of so many bytes has room for every screen
pub has_room : (s : List ℕ) → ((i : ℕ) → get_or s i 0 < 256) → (room : ℕ) → 64538 ≤ room → inspect_says s room ≡ answers (length (screen_of s))
unfolding inspect_says
has_room s bytes room h = rw (le-leb (length (screen_of s)) room (omega (arith, screen_short s bytes)))
