-- Laws of `Puts`: texts that are put one after another by calls with `?`, and a text for each item of a list.
use Rattle.std.proofs.Common.{◌≡◌, ℕ, ◌+◌, ◌<◌, true, List, [], ◌++◌, length, drop, get_or, Result, Ok, Err}
use Rattle.std.proofs.Common.{ap, subst, ◌∙◌}
use Rattle.std.specs.Prelude.{IsErrAnd}
use Rattle.std.specs.Io.KnownBytes.{Keeps, Appends}
use Rattle.std.specs.List.{flat_map}
use Rattle.device_text.specs.Device.{Writes, WritesFront, WritesAllBut, failed_after}
use Rattle.device_text.specs.Putting.{Puts}
use Rattle.device_text.specs.declared.output.Output as output
use Rattle.device_text.specs.declared.output.WriteFailed.{WriteFailed}
use Rattle.device_text.proofs.Moving.{cut_in, writes_after, writes_last, flushed, piece_written, piece_cut, each_left}

-- everything but the rest was put, and no call failed
pub record PutsAllBut {X : Type 0} (device : output.Ghosts X) (rest : List ℕ) (old new : X) (all : List ℕ)
    : Type 0 where
  pub written : WritesAllBut rest (device.contents old) (device.contents new) all
  pub failures : device.has_failed new ≡ device.has_failed old
  pub same : device.lender new ≡ device.lender old

module _ {X : Type 0} (device : output.Ghosts X) where
  -- ---- texts one after another, as calls with `?` write them

  -- a text, and then the texts after it
  pub puts_after : {u : Unit {0}} (r : Result (Unit {0}) WriteFailed) (a b c : X) (t rest : List ℕ)
      → Puts device (Ok u) a b t → Puts device r b c rest → Puts device r a c (t ++ rest)
  puts_after r a b c t rest p q =
      record {
        written = writes_after r (device.contents a) (device.contents b) (device.contents c) t rest p.written q.written;
        failure = q.failure ∙ ap (λ h. failed_after h r) p.failure;
        same = q.same ∙ p.same;
      }

  -- the last text, in the form that `concat` gives it
  pub puts_last : (r : Result (Unit {0}) WriteFailed) (a b : X) (t : List ℕ) → Puts device r a b t
      → Puts device r a b (t ++ [])
  puts_last r a b t p =
      record {
        written = writes_last r (device.contents a) (device.contents b) t p.written;
        failure = p.failure;
        same = p.same;
      }

  -- an error in a text, which `?` returns
  pub puts_cut : (r : Result (Unit {0}) WriteFailed) (Q : WriteFailed → Type 0) → IsErrAnd r Q
      → {e : WriteFailed} (a b : X) (t rest : List ℕ) → Puts device (Err e) a b t → Puts device r a b (t ++ rest)
  puts_cut (Ok u) Q h a b t rest p = absurd h
  puts_cut (Err f) Q h a b t rest p =
      record {
        written = cut_in (device.contents a) (device.contents b) t rest p.written;
        failure = p.failure;
        same = p.same;
      }

  -- a flush after everything was put
  pub puts_flushed : {u : Unit {0}} (r : Result (Unit {0}) WriteFailed) (a b c : X) (all : List ℕ)
      → Puts device (Ok u) a b all → Keeps (device.contents b) (device.contents c)
      → device.has_failed c ≡ failed_after (device.has_failed b) r → device.lender c ≡ device.lender b
      → Puts device r a c all
  puts_flushed r a b c all p k f s =
      record {
        written = flushed r (device.contents a) (device.contents b) (device.contents c) all p.written k;
        failure = f ∙ ap (λ h. failed_after h r) p.failure;
        same = s ∙ p.same;
      }

  -- ---- the same of bytes that `put` writes

  pub bytes_put : (r : Result (Unit {0}) WriteFailed) (a b : X) (t : List ℕ)
      → Writes r (device.contents a) (device.contents b) t
      → device.has_failed b ≡ failed_after (device.has_failed a) r → device.lender b ≡ device.lender a
      → Puts device r a b t
  bytes_put r a b t w f s = record { written = w; failure = f; same = s }

  pub bytes_after : (r : Result (Unit {0}) WriteFailed) (a b c : X) (t rest : List ℕ)
      → Appends (device.contents a) (device.contents b) t → device.has_failed b ≡ device.has_failed a
      → device.lender b ≡ device.lender a → Puts device r b c rest → Puts device r a c (t ++ rest)
  bytes_after r a b c t rest w f s q =
      puts_after r a b c t rest (record { written = w; failure = f; same = s }) q

  pub bytes_cut : (r : Result (Unit {0}) WriteFailed) (Q : WriteFailed → Type 0) → IsErrAnd r Q
      → (a b : X) (t rest : List ℕ) → WritesFront (device.contents a) (device.contents b) t
      → device.has_failed b ≡ true → device.lender b ≡ device.lender a → Puts device r a b (t ++ rest)
  bytes_cut (Ok u) Q h a b t rest w f s = absurd h
  bytes_cut (Err e) Q h a b t rest w f s =
      puts_cut (Err e) Q h a b t rest (record { written = w; failure = f; same = s })

  -- ---- a text of many pieces

  pub puts_piece : {u : Unit {0}} (a b c : X) (piece rest all : List ℕ) → PutsAllBut device (piece ++ rest) a b all
      → Puts device (Ok u) b c piece → PutsAllBut device rest a c all
  puts_piece a b c piece rest all h p =
      record {
        written = piece_written (device.contents a) (device.contents b) (device.contents c) piece rest all h.written
            p.written;
        failures = p.failure ∙ h.failures;
        same = p.same ∙ h.same;
      }

  pub puts_piece_cut : (r : Result (Unit {0}) WriteFailed) (Q : WriteFailed → Type 0) → IsErrAnd r Q
      → {e : WriteFailed} (a b c : X) (piece rest all : List ℕ) → PutsAllBut device (piece ++ rest) a b all
      → Puts device (Err e) b c piece → Puts device r a c all
  puts_piece_cut (Ok u) Q i a b c piece rest all h p = absurd i
  puts_piece_cut (Err f) Q i a b c piece rest all h p =
      record {
        written = piece_cut (device.contents a) (device.contents b) (device.contents c) piece rest all h.written
            p.written;
        failure = p.failure;
        same = p.same ∙ h.same;
      }

  -- a text for each item of a list
  pub puts_each : {Y : Type 0} {u : Unit {0}} (f : Y → List ℕ) (xs : List Y) (i : ℕ) (d : Y) (a b c : X)
      (all : List ℕ) → i < length xs → PutsAllBut device (flat_map f (drop i xs)) a b all
      → Puts device (Ok u) b c (f (get_or xs i d)) → PutsAllBut device (flat_map f (drop (i + 1) xs)) a c all
  puts_each f xs i d a b c all h w p =
      puts_piece a b c (f (get_or xs i d)) (flat_map f (drop (i + 1) xs)) all
      (subst (λ l. PutsAllBut device l a b all) (each_left f xs i d h) w) p

  pub puts_each_cut : {Y : Type 0} (r : Result (Unit {0}) WriteFailed) (Q : WriteFailed → Type 0) → IsErrAnd r Q
      → {e : WriteFailed} (f : Y → List ℕ) (xs : List Y) (i : ℕ) (d : Y) (a b c : X) (all : List ℕ) → i < length xs
      → PutsAllBut device (flat_map f (drop i xs)) a b all → Puts device (Err e) b c (f (get_or xs i d))
      → Puts device r a c all
  puts_each_cut r Q h f xs i d a b c all inside w p =
      puts_piece_cut r Q h a b c (f (get_or xs i d)) (flat_map f (drop (i + 1) xs)) all
      (subst (λ l. PutsAllBut device l a b all) (each_left f xs i d inside) w) p
