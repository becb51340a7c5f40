-- Whether a whole packet stands behind a gate, by its length.
use Rattle.std.proofs.Common.{◌≡◌, ℕ, ◌+◌, ◌-◌, ◌<◌, ◌^◌, List, ◌++◌, length, length-append, length-drop, take, drop, sym, ◌∙◌, ap, arith, append_assoc, take-append-drop}
use Rattle.std.specs.Int.{to_be_bytes, from_be_bytes, w32}
use Rattle.std.proofs.lemmas.List.{drop-drop}
use Rattle.std.proofs.lemmas.Nat.{from_be_bytes-to_be_bytes_4}
use Rattle.dso_keep.specs.Packets.{sized}
use Rattle.dso_keep.specs.Reading.{IsBehind, NoneBehind}

-- a packet takes its length and four bytes
long : (packet rest : List ℕ) → length (sized packet ++ rest) ≡ 4 + length packet + length rest
long packet rest =
    let whole = length-append (sized packet) rest in
    let four_more : length (sized packet) ≡ 4 + length packet = length-append (to_be_bytes w32 (length packet)) packet in
    omega (arith, whole, four_more)

pub none_short : (bytes : List ℕ) (at count : ℕ) → count - at < 5 → count ≡ length bytes → NoneBehind (drop (at + 1) bytes)
none_short bytes at count short is packet behind =
    let whole : length (drop (at + 1) bytes) ≡ 4 + length packet + length behind.1 = ap length behind.2 ∙ long packet behind.1 in
    let left : length (drop (at + 1) bytes) ≡ length bytes - (at + 1) = length-drop (at + 1) bytes in
    omega (arith, short, is, whole, left)

pub none_long : (bytes head : List ℕ) (at count size : ℕ) → head ≡ take 4 (drop (at + 1) bytes) → size < 2 ^ 32 → head ≡ to_be_bytes w32 size → count - at - 5 < size → count ≡ length bytes → NoneBehind (drop (at + 1) bytes)
none_long bytes head at count size heads fits number short is packet behind =
    let front : to_be_bytes w32 size ≡ to_be_bytes w32 (length packet) = sym number ∙ heads ∙ ap (λ (l : List ℕ). take 4 l) behind.2 in
    let same : size ≡ length packet = sym (from_be_bytes-to_be_bytes_4 size fits) ∙ ap (from_be_bytes w32) front ∙ from_be_bytes-to_be_bytes_4 (length packet) behind.0 in
    let whole : length (drop (at + 1) bytes) ≡ 4 + length packet + length behind.1 = ap length behind.2 ∙ long packet behind.1 in
    let left : length (drop (at + 1) bytes) ≡ length bytes - (at + 1) = length-drop (at + 1) bytes in
    omega (arith, short, is, whole, left, same)

pub whole_behind : (bytes head packet : List ℕ) (at size : ℕ) → head ≡ take 4 (drop (at + 1) bytes) → size < 2 ^ 32 → head ≡ to_be_bytes w32 size
    → packet ≡ take size (drop (at + 5) bytes) → length packet ≡ size → IsBehind packet (drop (at + 1) bytes)
whole_behind bytes head packet at size heads fits number is full =
    let front : to_be_bytes w32 (length packet) ≡ head = ap (to_be_bytes w32) full ∙ sym number in
    let tail = drop (at + 1) bytes in
    let rest = drop size (drop (at + 5) bytes) in
    let behind : drop 4 tail ≡ drop (at + 5) bytes = drop-drop 4 (at + 1) bytes ∙ ap (λ (n : ℕ). drop n bytes) (omega arith) in
    let one : tail ≡ head ++ drop 4 tail = sym (take-append-drop 4 tail) ∙ ap (λ (l : List ℕ). l ++ drop 4 tail) (sym heads) in
    let two : drop (at + 5) bytes ≡ packet ++ rest = sym (take-append-drop size (drop (at + 5) bytes)) ∙ ap (λ (l : List ℕ). l ++ rest) (sym is) in
    let three : tail ≡ head ++ (packet ++ rest) = one ∙ ap (λ (l : List ℕ). head ++ l) (behind ∙ two) in
    let four_and : head ++ (packet ++ rest) ≡ to_be_bytes w32 (length packet) ++ (packet ++ rest) = ap (λ (l : List ℕ). l ++ (packet ++ rest)) (sym front) in
    (omega (arith, full, fits), rest, three ∙ four_and ∙ sym (append_assoc (to_be_bytes w32 (length packet)) packet rest))
