-- More bytes are held, as far as there is room. Assumes nothing.
use Rattle.std.proofs.Common.{ℕ, ◌≡◌, ◌+◌, ◌-◌, ◌≤◌, List, ◌++◌, length, take, drop, min, sym, ap, ◌∙◌, arith}
use Rattle.std.proofs.lemmas.List.{take_min, length-take-le, drop-drop, drop-replicate}
use Rattle.std.proofs.lemmas.Slice.{take-put_mid, drop-put_mid}
use Rattle.std.proofs.Math.Seq.{take-append-add}
use borrow.Rule.Slice.PartMut.{put_mid, same_len_mid, mid_of}
use Rattle.console.specs.Held.{HELD, IsFilled, held_is}

-- `n` of them are put behind the `held` that there are
module _ (held n : ℕ) (bytes more put : List ℕ) (f : IsFilled held bytes) (least : n ≤ HELD - held) (most : n ≤ length more)
    (part : put ≡ take n more) (same : length put ≡ length (mid_of held (held + n - held) bytes))
  where
    fits : held + n ≤ HELD
    fits = omega (arith, f.fits, least)

    size : length put ≡ n
    size = ap length part ∙ length-take-le n more most

    -- what is held then, where it is all that there is room for
    pub held_more : n ≡ min (HELD - held) (length more) → take (held + n) (put_mid held (held + n - held) bytes put) ≡ take HELD (take held bytes ++ more)
    held_more room =
        let whole : length (take held bytes) + (HELD - held) ≡ HELD = omega (arith, held_is f, f.fits) in
        take-put_mid held (held + n - held) bytes put (held + n) (omega (arith, size)) (omega (arith, f.fits, f.size))
        ∙ ap (λ (l : List ℕ). take held bytes ++ l) (part ∙ ap (λ (k : ℕ). take k more) room ∙ take_min (HELD - held) more)
        ∙ sym (take-append-add (take held bytes) more (HELD - held))
        ∙ ap (λ (k : ℕ). take k (take held bytes ++ more)) whole

    -- what stands behind it
    behind : drop (held + n) (put_mid held (held + n - held) bytes put) ≡ drop n (drop held bytes)
    behind =
        drop-put_mid held (held + n - held) bytes put (held + n) (omega arith) (omega (arith, f.fits, f.size)) (omega (arith, size))
        ∙ sym (drop-drop n held bytes)

    pub filled_more : IsFilled (held + n) (put_mid held (held + n - held) bytes put)
    filled_more =
        let left : HELD - held - n ≡ HELD - (held + n) = omega arith in
        record {
          fits = fits;
          size = same_len_mid held (held + n - held) bytes put same ∙ f.size;
          rest = behind ∙ ap (drop n) f.rest ∙ rw left at (drop-replicate {X = ℕ} n (HELD - held) 0);
        }
