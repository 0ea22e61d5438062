-- Demand 1 for house lines: the answers of `read_line` and `write_line` in their order, with number, value, and what stands in the lent buffer. The faults of a line have the number
-- of the console's frame 2F.
use Rattle.std.specs.Prelude.{Err, Result, Ok}
use Prim.Native.Nat.{ℕ, ◌/◌, ◌%◌}
use mathlib.Core.Path.{◌≡◌, refl, ◌∙◌}
use mathlib.Core.Bool.{Bool, true, false, cond, not}
use mathlib.Core.List.{List, [], ◌∷◌}
use lib.Dec.{ltb, eqb}
use lib.ListN.{length}
use Rattle.buffer.specs.Write.{over, over_if_fits}
use Rattle.frame.specs.Hex.{unhex, first_bad}
use Rattle.frame.specs.House.{house_line, ends_in_lF, digits_of, read_digits, read_house, left_by, house_leaves, HouseRead, write_house, HouseWritten, number, value, line_number, line_value}
use Rattle.frame.specs.declared.house.HouseRefusal.{HouseRefusal}
use Rattle.frame.specs.declared.house.HouseRefusal.TheVariants.{Unended}
use Rattle.buffer.specs.declared.show.TooShort.{TooShort}
use Rattle.promises.proofs.Tables.{Answered, told, row, first, lacks, either, split, telling}

-- READ_LINE: a line that is not ended, has no digit, over 1,024 or an odd number of them, or another byte among them, is of no such form; then 9
unfoldable pub read_table : List ℕ → List ℕ → Answered (List ℕ)
read_table line out =
    let digits : List ℕ = digits_of line in
    first
    (row 0x2F (not (ends_in_lF line)) 0 out
    ∷ row 0x2F (eqb (length digits) 0) 0 out
    ∷ row 0x2F (ltb 1024 (length digits)) 0 out
    ∷ row 0x2F (eqb (length digits % 2) 1) 0 out
    ∷ row 0x2F (ltb (first_bad digits) (length digits)) (first_bad digits) out
    ∷ row 9 (ltb (length out) (length digits / 2)) (length digits / 2) out
    ∷ [])
    (told 0 (length digits / 2) (over (unhex digits) out))

pub read_line_tells : (line out : List ℕ) (r : Result ℕ HouseRefusal) (left : List ℕ) → HouseRead line out r left → told (number r) (value r) left ≡ read_table line out
unfolding read_table first read_house read_digits house_leaves
read_line_tells line out r left t =
    let digits : List ℕ = digits_of line in
    telling number value _ _ _ _ t.answer t.bytes
    ∙ turned (ends_in_lF line) _ _
    (either tells (eqb (length digits) 0) _ _ _ _ refl
    (either tells (ltb 1024 (length digits)) _ _ _ _ refl
    (either tells (eqb (length digits % 2) 1) _ _ _ _ refl
    (either tells (ltb (first_bad digits) (length digits)) _ _ _ _ refl
    (either tells (ltb (length out) (length digits / 2)) _ _ _ _ refl refl)))))
  where
    tells : Result ℕ HouseRefusal → Answered (List ℕ)
    tells x = told (number x) (value x) (left_by x (unhex (digits_of line)) out)

    turned : (b : Bool) (x : Result ℕ HouseRefusal) (t : Answered (List ℕ)) → tells x ≡ t → tells (cond b x (Err Unended)) ≡ cond (not b) (told 0x2F 0 out) t
    turned true x t e = e
    turned false x t e = refl

-- WRITE_LINE: 9
unfoldable pub write_table : List ℕ → List ℕ → Answered (List ℕ)
write_table frame out = first (row 9 (lacks (house_line frame) out) (length (house_line frame)) out ∷ []) (told 0 (length (house_line frame)) (over (house_line frame) out))

pub write_line_tells : (frame out : List ℕ) (r : Result ℕ TooShort) (left : List ℕ) → HouseWritten frame out r left → told (line_number r) (line_value r) left ≡ write_table frame out
unfolding write_table first write_house over_if_fits
write_line_tells frame out r left t =
    telling line_number line_value _ _ _ _ t.answer t.bytes
    ∙ split (λ (x : Result ℕ TooShort) (l : List ℕ). told (line_number x) (line_value x) l) (lacks (house_line frame) out) (Err (record { needed = length (house_line frame) })) (Ok (length (house_line frame))) out _ _ _ refl refl
