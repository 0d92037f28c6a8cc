-- What the object of a number is, by its shape.
use Rattle.std.proofs.Common.{◌≡◌, ℕ, [], ◌++◌, ◌∷◌, Option, Some, None, refl}
use Rattle.std.specs.Prelude.{codes, decimal, option_map, option_and_then, unwrap_or, is_some, true}
use Rattle.enc_base.specs.declared.token.Token.{Token}
use Rattle.enc_objects.specs.Entries.{Entries}
use Rattle.enc_objects.specs.Objects.{Store, object_at, has_object, content_shape, shape_in, fields_in, elements_of_content, elements_held, units_of_content, units_held}
use Rattle.enc_objects.specs.declared.kind.Kind.{Kind}
use Rattle.enc_objects.specs.declared.object.Object.{Object}
use Rattle.enc_objects.specs.declared.object.Content.{Content}
use Rattle.enc_objects.specs.declared.object.Content.TheVariants.{Instance, Array, Text}
use Rattle.enc_objects.specs.declared.shape.Shape.TheVariants as shape
use Rattle.enc_text.specs.Text.{token_text, quoted}
use Rattle.enc_text.specs.BodyText.{utf8_of}
use Rattle.enc_session.specs.States.{fields_text, array_kind_text, bracketed_values, content_text, object_line}
use Rattle.enc_session.specs.StatesSeen.{content_at, object_line_at}

absent_content : (s : Store) (id : ℕ) (o : Option Object) → option_map (λ (x : Object). content_shape x.content) o ≡ None → unwrap_or (option_map (λ (x : Object). content_text x.content x.fields) o) [] ≡ []
absent_content s id None h = refl
absent_content s id (Some x) h = cc

-- nothing
pub none_content : (s : Store) (id : ℕ) → shape_in s id ≡ None → content_at s id ≡ []
unfolding shape_in content_at
none_content s id h = absent_content s id (object_at s id) h

class_of : (class : Token) (c : Content) (fields : Entries) → content_shape c ≡ shape.Object class → content_text c fields ≡ codes "class " ++ token_text class ++ fields_text fields
class_of class (Instance t) fields h = let e : t ≡ class = cc in rw e refl
class_of class (Array k elements) fields h = cc
class_of class (Text units) fields h = cc

class_at : (class : Token) (o : Option Object) → option_map (λ (x : Object). content_shape x.content) o ≡ Some (shape.Object class)
    → unwrap_or (option_map (λ (x : Object). content_text x.content x.fields) o) [] ≡ codes "class " ++ token_text class ++ fields_text (unwrap_or (option_map (λ (x : Object). x.fields) o) [])
class_at class None h = cc
class_at class (Some x) h = let e : content_shape x.content ≡ shape.Object class = cc in class_of class x.content x.fields e

-- an instance
pub class_content : (s : Store) (id : ℕ) (class : Token) → shape_in s id ≡ Some (shape.Object class) → content_at s id ≡ codes "class " ++ token_text class ++ fields_text (fields_in s id)
unfolding shape_in content_at fields_in
class_content s id class h = class_at class (object_at s id) h

array_of : (k : Kind) (n : ℕ) (c : Content) (fields : Entries) → content_shape c ≡ shape.Array k n → content_text c fields ≡ codes "array " ++ bracketed_values (array_kind_text k) (unwrap_or (elements_of_content c) [])
array_of k n (Instance t) fields h = cc
array_of k n (Array l elements) fields h = let e : l ≡ k = cc in rw e refl
array_of k n (Text units) fields h = cc

array_at : (k : Kind) (n : ℕ) (o : Option Object) → option_map (λ (x : Object). content_shape x.content) o ≡ Some (shape.Array k n)
    → unwrap_or (option_map (λ (x : Object). content_text x.content x.fields) o) []
    ≡ codes "array " ++ bracketed_values (array_kind_text k) (unwrap_or (option_and_then (λ (x : Object). elements_of_content x.content) o) [])
array_at k n None h = cc
array_at k n (Some x) h = let e : content_shape x.content ≡ shape.Array k n = cc in array_of k n x.content x.fields e

-- an array
pub array_content : (s : Store) (id : ℕ) (k : Kind) (n : ℕ) → shape_in s id ≡ Some (shape.Array k n)
    → content_at s id ≡ codes "array " ++ bracketed_values (array_kind_text k) (unwrap_or (elements_held s id) [])
unfolding shape_in content_at elements_held
array_content s id k n h = array_at k n (object_at s id) h

text_of : (n : ℕ) (c : Content) (fields : Entries) → content_shape c ≡ shape.Text n → content_text c fields ≡ codes "text " ++ quoted (utf8_of (unwrap_or (units_of_content c) []))
text_of n (Instance t) fields h = cc
text_of n (Array l elements) fields h = cc
text_of n (Text units) fields h = refl

text_at : (n : ℕ) (o : Option Object) → option_map (λ (x : Object). content_shape x.content) o ≡ Some (shape.Text n)
    → unwrap_or (option_map (λ (x : Object). content_text x.content x.fields) o) []
    ≡ codes "text " ++ quoted (utf8_of (unwrap_or (option_and_then (λ (x : Object). units_of_content x.content) o) []))
text_at n None h = cc
text_at n (Some x) h = let e : content_shape x.content ≡ shape.Text n = cc in text_of n x.content x.fields e

-- a text
pub text_content : (s : Store) (id : ℕ) (n : ℕ) → shape_in s id ≡ Some (shape.Text n) → content_at s id ≡ codes "text " ++ quoted (utf8_of (unwrap_or (units_held s id) []))
unfolding shape_in content_at units_held
text_content s id n h = text_at n (object_at s id) h

line_of : (id : ℕ) (o : Option Object) → is_some o ≡ true
    → codes "object " ++ decimal id ++ 0x20 ∷ unwrap_or (option_map (λ (x : Object). content_text x.content x.fields) o) [] ++ 0x0a ∷ [] ≡ unwrap_or (option_map (object_line id) o) []
unfolding object_line
line_of id None h = cc
line_of id (Some x) h = refl

-- the line of an object that is there
pub object_shown : (s : Store) (id : ℕ) → has_object s id ≡ true → codes "object " ++ decimal id ++ 0x20 ∷ content_at s id ++ 0x0a ∷ [] ≡ object_line_at s id
unfolding has_object content_at object_line_at
object_shown s id h = line_of id (object_at s id) h
