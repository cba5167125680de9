-- Every design that fits a network, in a list.
use Rattle.std.proofs.Common.{◌≡◌, ℕ, suc, ◌<◌, inl, inr, List, [], ◌∷◌, length, map, Option, Some, None, refl, arith}
use Rattle.std.proofs.lemmas.List.FromFn.{length-map-range_with_len, get_or-map-range_with_len}
use Rattle.std.specs.Prelude.{slice_index, IfSome}
use Rattle.std.specs.List.{range_with_len, flat_map}
use Rattle.duct_definitions.specs.declared.design.Design.{Design}
use Rattle.duct_definitions.specs.Tree.{section_count, sections}
use Rattle.duct_definitions.specs.Network.{Network, size_count}
use Rattle.duct_definitions.specs.Designs.{Fits}
use Rattle.design_laws.proofs.Among.{Among, Among-range, Among-map, Among-flat_map}

-- the lists with a number below each of the bounds
abbrev pub choices : List ℕ → List (List ℕ)
choices [] = [] ∷ []
choices (bound ∷ bounds) = flat_map (λ k. map (λ ks. k ∷ ks) (choices bounds)) (range_with_len 0 bound)

-- the number of sizes of each section
abbrev pub size_counts : Network → List ℕ
size_counts net = map (size_count net) (sections net.tree)

-- no return fan, or one of so many
abbrev pub backs : ℕ → List (Option ℕ)
backs count = None ∷ map Some (range_with_len 0 count)

-- with these fans, all sizes
abbrev pub designs_with : Network → ℕ → Option ℕ → List Design
designs_with net fan back =
    map (λ sizes. record { fan = fan; back = back; sizes = sizes }) (choices (size_counts net))

abbrev pub designs : Network → List Design
designs net =
    flat_map (λ fan. flat_map (designs_with net fan) (backs (length net.return_fans)))
    (range_with_len 0 (length net.fans))

Among-backs : (count : ℕ) (back : Option ℕ) → IfSome back (λ i. i < count) → Among back (backs count)
Among-backs count None within = inl refl
Among-backs count (Some i) within =
    inr (Among-map Some i (range_with_len 0 count) (Among-range 0 count i (omega arith) (omega (arith, within))))

Among-choices : (bounds ks : List ℕ) → length ks ≡ length bounds
    → ((i : ℕ) → i < length bounds → slice_index ks i < slice_index bounds i) → Among ks (choices bounds)
Among-choices [] [] same within = inl refl
Among-choices [] (k ∷ ks) same within = absurd (omega arith)
Among-choices (bound ∷ bounds) [] same within = absurd (omega arith)
Among-choices (bound ∷ bounds) (k ∷ ks) same within =
    let first : k < bound = within 0 (omega arith) in
    let rest : (i : ℕ) → i < length bounds → slice_index ks i < slice_index bounds i =
    λ i below. within (suc i) (omega arith) in
    Among-flat_map (λ m. map (λ others. m ∷ others) (choices bounds)) (k ∷ ks) k (range_with_len 0 bound)
    (Among-range 0 bound k (omega arith) (omega arith))
    (Among-map (λ others. k ∷ others) ks (choices bounds) (Among-choices bounds ks (omega arith) rest))

pub Among-designs : (net : Network) (d : Design) → Fits net d → Among d (designs net)
Among-designs net d fits =
    let count : length (size_counts net) ≡ section_count net.tree =
    length-map-range_with_len (size_count net) 0 (section_count net.tree) in
    let each : (s : ℕ) → s < length (size_counts net) → slice_index d.sizes s < slice_index (size_counts net) s =
    λ s within.
    let at : slice_index (size_counts net) s ≡ size_count net s =
    get_or-map-range_with_len (size_count net) 0 (section_count net.tree) s s 0 (omega arith) (omega arith) in
    let below : slice_index d.sizes s < size_count net s = fits.each s (omega arith) in
    omega arith in
    Among-flat_map (λ fan. flat_map (designs_with net fan) (backs (length net.return_fans))) d d.fan
    (range_with_len 0 (length net.fans))
    (Among-range 0 (length net.fans) d.fan (omega arith) (omega (arith, fits.fan)))
    (Among-flat_map (designs_with net d.fan) d d.back (backs (length net.return_fans))
    (Among-backs (length net.return_fans) d.back fits.back)
    (Among-map (λ sizes. record { fan = d.fan; back = d.back; sizes = sizes }) d.sizes (choices (size_counts net))
    (Among-choices (size_counts net) d.sizes (omega (arith, fits.sizes)) each)))
