-- What belongs to no one function: divisions that wait.
pub mod Division
